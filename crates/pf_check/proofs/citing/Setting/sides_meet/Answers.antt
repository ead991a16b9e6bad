use Rattle.std.proofs.Common.{sym, subst}
use Rattle.pf_forms.specs.Meaning.Shapes.{shape}
use Rattle.pf_forms.specs.Meaning.Values.{IsFormOver}
use Rattle.pf_rules.specs.Meaning.Rules.{pair}
use Rattle.pf_check.proofs.PairLaws.{are_ranges}
use Rattle.pf_check.proofs.citing.Setting.sides_meet.Goals as goal

pub replay-requires-clause-left : goal.replay-requires-clause-left
replay-requires-clause-left c =
    let all = are_ranges (pair c.args.self.now.w c.args.self.now.k) 0 c.args.parts.now.vars c.args.self.now.ranges.now c.requires.ranges in
    subst (λ n. IsFormOver n (shape c.in-Ok.left)) (sym all.alike) c.in-Ok.ensures.over

pub replay-requires-clause-right : goal.replay-requires-clause-right
replay-requires-clause-right c =
    let all = are_ranges (pair c.args.self.now.w c.args.self.now.k) 0 c.args.parts.now.vars c.args.self.now.ranges.now c.requires.ranges in
    subst (λ n. IsFormOver n (shape c.in-Ok-side.right)) (sym all.alike) c.in-Ok-side.ensures.over
