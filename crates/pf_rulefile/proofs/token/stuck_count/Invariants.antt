use Rattle.std.proofs.Common.{◌≡◌, ◌++◌, drop, take}
use Rattle.pf_rulefile.specs.Steps.Fronts.{stuck, behind_stuck}
use Rattle.pf_rulefile.proofs.token.stuck_count.Given as goal

abbrev pub invariant-loop-i : goal.invariant-loop-i
invariant-loop-i l =
    record {
      stuck : take l.i l.text ++ stuck l.last (drop l.i l.text) ≡ stuck l.first l.text;
      behind : behind_stuck l.last (drop l.i l.text) ≡ behind_stuck l.first l.text;
    }
