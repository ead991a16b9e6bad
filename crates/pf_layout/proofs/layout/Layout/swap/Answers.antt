use Rattle.std.proofs.Common.{ap, arith, ◌∙◌}
use Rattle.pf_layout.specs.Meaning.Orders.{place_of}
use Rattle.pf_layout.proofs.InverseLaws.{view_order, view_count, swapped_place}
use Rattle.pf_layout.proofs.layout.Layout.swap.Goals as goal

pub returns-clause-place : goal.returns-clause-place
returns-clause-place c = λ p.
    (let order = view_order _ _ c.self.inside.digits _ c.self.invariant c.self.view_is in
    let count = view_count _ _ c.self.inside.digits _ c.self.invariant c.self.view_is in
    ap (λ ds. place_of ds p) c.through.ensures
    ∙ swapped_place c.args.digit c.transposition-exchange.result c.args.self.now order (λ d lt. c.transposition-exchange.ensures.each d (omega (arith, count, lt))) p)
