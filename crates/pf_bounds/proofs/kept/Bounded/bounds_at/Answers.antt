use Rattle.std.proofs.Common.{rules, sym, ◌∙◌, ap, ◌≡◌, Some}
use Rattle.pf_bounds.proofs.PlaceLaws.{part_interval}
use Rattle.pf_bounds.proofs.kept.Bounded.bounds_at.Goals as goal

pub returns-clause-kept : goal.returns-clause-kept
returns-clause-kept c ranges kept =
    let whole : Some c.whole.result ≡ _ = ap (λ r. Some r) c.whole.ensures in
    whole ∙ part_interval ranges c.args.self.now.term c.in_ok-part.part.term.now c.in_ok-part.part.bounds.now c.args.path.now c.in_ok-part.ensures.part (c.in_ok-part.ensures.kept ranges kept)
