use Rattle.std.proofs.Common.{◌≡◌, take, subst, sym, refl, ◌∙◌}
use Rattle.pf_layout.specs.Steps.Inverses.{IsInverse}
use Rattle.pf_layout.proofs.InverseLaws.{view_count, repaired_place}
use Rattle.pf_layout.proofs.layout.Layout.repairs.Goals as goal

pub returns-clause-place : goal.returns-clause-place
returns-clause-place c =
    let from = c.from.inside in
    let to = c.to.inside in
    let same : to.count ≡ from.count = view_count _ _ to.digits _ c.to.invariant c.to.view_is ∙ sym c.requires ∙ sym (view_count _ _ from.digits _ c.from.invariant c.from.view_is) in
    repaired_place from.count from.positions from.digits to.positions to.digits c.read_through-positions.result c.read_through-digits.result c.args.from.now c.args.to.now
    (take from.count c.read_through-positions.result) c.from.invariant (subst (λ n. IsInverse n to.positions to.digits) same c.to.invariant)
    (record {
      size = c.read_through-positions.ensures.size;
      other_size = c.read_through-digits.ensures.size;
      first = c.read_through-positions.ensures.each;
      second = c.read_through-digits.ensures.each;
    })
    c.from.view_is (subst (λ n. take n to.positions ≡ c.args.to.now) same c.to.view_is) refl
