use Rattle.std.proofs.Common.{◌≡◌, ◌++◌, drop}
use Rattle.std.specs.List.{flat_map}
use Rattle.pf_kernel.specs.Meaning.Texts.{ended, def_text}
use Rattle.pf_kernel.proofs.write.write_defs.Given as goal

abbrev pub invariant-loop-def : goal.invariant-loop-def
invariant-loop-def l = l.text.items ++ flat_map (λ d. ended (def_text l.names d)) (drop l.def-index l.defs) ≡ l.fn.text.items ++ flat_map (λ d. ended (def_text l.names d)) l.defs
