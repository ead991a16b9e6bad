use Rattle.std.proofs.Common.{◌≡◌, map, take, All, Some}
use Rattle.pf_rules.specs.Meaning.Instances.{all_of, instance_of, HasInstance}
use Rattle.pf_rules.proofs.instances.+replaced.Given as goal

abbrev pub decreases-replaced : goal.decreases-replaced
decreases-replaced l = goal.size-replaced l

abbrev pub invariant-loop-arg : goal.invariant-loop-arg
invariant-loop-arg l =
    record {
      each : All (λ p. HasInstance l.binding p) l.arg-items;
      made : all_of (map (instance_of l.binding) (take l.arg-index l.arg-items)) ≡ Some l.terms;
    }
