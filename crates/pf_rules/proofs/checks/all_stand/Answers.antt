use Rattle.std.proofs.Common.{arith, refl}
use Rattle.pf_rules.proofs.ShiftLaws.{stand_less}
use Rattle.pf_rules.proofs.checks.all_stand.Goals as goal

pub loop-n-preserved : goal.loop-n-preserved
loop-n-preserved c =
    stand_less c.loop-n.n _ c.occurrences.result c.args.pattern.now _ c.loop-n.invariant (omega (arith, c.loop-n-test.true)) refl c.occurrences.ensures c.if-occurrences-eq0.false
