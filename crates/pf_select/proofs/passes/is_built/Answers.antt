use Rattle.std.proofs.Common.{◌≡◌, refl, arith, []}
use Rattle.pf_ints.specs.declared.target.Target.TheVariants.{Neon}
use Rattle.pf_values.specs.Meaning.Kernels.{Source}
use Rattle.pf_select.specs.Meaning.MinOfTaps.{byte_type, min_term}
use Rattle.pf_select.specs.Meaning.Targets.{IsBuilt}
use Rattle.pf_select.proofs.passes.is_built.Goals as goal

-- a kernel that a text is selected for
neon_built : (source : Source) × IsBuilt Neon source
neon_built = (
  record { images = []; taps = []; defs = []; out_ty = byte_type; out = min_term byte_type 0 0 },
  (0, 0, record { taps = λ n d low. absurd (omega (arith, low)); defs = refl; out_ty = refl; out = refl }),
)

pub returns-in-Neon : goal.returns-in-Neon
returns-in-Neon c = rw c.in-Neon.is (λ _. neon_built, λ _. refl)
