use Rattle.std.proofs.Common.{◌≡◌, ◌++◌, drop, true, All}
use Rattle.pf_rules.specs.Meaning.Rules.{is_width, pairs_at, first_bad}
use Rattle.pf_rules.proofs.shifts.pairs.Given as goal

abbrev pub invariant-loop-width : goal.invariant-loop-width
invariant-loop-width l =
    record {
      each : All (λ w. is_width w ≡ true) l.width-items;
      so_far : l.all ++ pairs_at (drop l.width-index l.width-items) l.parts.shift ≡ pairs_at l.width-items l.parts.shift;
      good : first_bad (drop l.width-index l.width-items) l.parts.shift ≡ first_bad l.width-items l.parts.shift;
    }
