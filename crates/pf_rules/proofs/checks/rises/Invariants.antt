use Rattle.std.proofs.Common.{◌≡◌, drop, pos}
use Rattle.pf_rules.specs.Meaning.Rules.{rises}
use Rattle.pf_rules.proofs.checks.rises.Given as goal

abbrev pub invariant-loop-width : goal.invariant-loop-width
invariant-loop-width l = rises l.before (drop l.width-index l.widths) ≡ rises (pos 0) l.widths
