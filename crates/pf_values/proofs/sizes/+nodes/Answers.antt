use Rattle.std.proofs.Common.{arith, ◌≡◌, ℕ, ◌+◌, ◌-◌, ◌^◌, ◌<◌, ◌≤◌, List, length, drop, min, map}
use Rattle.std.specs.Prelude.{sum}
use Rattle.std.proofs.lemmas.List.{at_drop_all}
use Rattle.pf_values.specs.declared.term.Term.{Term}
use Rattle.pf_values.specs.Meaning.Terms.{node_count}
use Rattle.pf_values.proofs.sizes.+nodes.Goals as goal

whole : (n w i : ℕ) (items : List Term) → n < 2 ^ 64 → length items ≤ i → min (n + sum (map node_count (drop i items))) (2 ^ 64 - 1) ≡ w → n ≡ w
whole n w i items fits all is =
    omega (arith, at_drop_all (λ xs. sum (map node_count xs)) items i all)

pub returns-after-loop-arg : goal.returns-after-loop-arg
returns-after-loop-arg t c =
    whole c.loop-arg.sum _ c.loop-arg.arg-index c.as_slice-arg-items.result.now (omega arith) (omega arith) c.loop-arg.invariant.whole
