use Rattle.std.proofs.Common.{◌≡◌, ◌-◌, ◌^◌, min, map, sum, take}
use Rattle.pf_values.specs.Meaning.Terms.{node_count}
use Rattle.pf_kernel.proofs.line.nodes_in.Given as goal

abbrev pub invariant-loop-def : goal.invariant-loop-def
invariant-loop-def l = l.count ≡ min (sum (map (λ d. node_count d.term) (take l.def-index l.defs))) (2 ^ 64 - 1)
