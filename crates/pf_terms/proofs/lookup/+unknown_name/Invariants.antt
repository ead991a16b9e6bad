use Rattle.std.proofs.Common.{◌≡◌, drop, map}
use Rattle.pf_terms.specs.Meaning.Meanings.{first_unknown, first_some}
use Rattle.pf_terms.proofs.lookup.+unknown_name.Given as goal

abbrev pub invariant-loop-arg : goal.invariant-loop-arg
invariant-loop-arg l = first_some (map (first_unknown l.names) (drop l.arg-index l.arg-items)) ≡ first_some (map (first_unknown l.names) l.arg-items)
