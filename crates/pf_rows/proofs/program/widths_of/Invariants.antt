use Rattle.std.proofs.Common.{◌≡◌, map, take}
use Rattle.std.specs.Prelude.{slice_index_or}
use Rattle.pf_machine.specs.Meaning.Runs.{pixel_bytes}
use Rattle.pf_values.specs.Meaning.Kernels.{no_decl}
use Rattle.pf_rows.proofs.program.widths_of.Given as goal

abbrev pub invariant-loop-tap : goal.invariant-loop-tap
invariant-loop-tap l = l.widths ≡ map (λ t. pixel_bytes (slice_index_or l.head.images t.image no_decl).ty) (take l.tap-index l.head.taps)
