use Rattle.std.proofs.Common.{◌≡◌, ℕ, length}
use Rattle.pf_ints.specs.declared.lane.LaneType.{LaneType}
use Rattle.pf_match.specs.Steps.Lists.{lists_at}
use Rattle.pf_match.proofs.index.grow.Given as goal

abbrev pub invariant-loop : goal.invariant-loop
invariant-loop l = record { same : (place : ℕ) (ty : LaneType) → lists_at l.lists place ty ≡ lists_at l.fn.lists place ty; many : length l.lists ≡ l.counter }
