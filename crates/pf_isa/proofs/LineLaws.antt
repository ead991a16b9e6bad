-- The line of a target is short.
use Rattle.std.proofs.Common.{ap, ℕ, ◌-◌, ◌<◌, ◌≤◌, List, length, arith, lit≤}
use Rattle.pf_ints.specs.declared.target.Target.{Target}
use Rattle.pf_ints.specs.declared.target.Target.TheVariants.{Neon, Avx2, Hvx}
use Rattle.pf_text.specs.Meaning.Lines.{tight, IsLine}
use Rattle.pf_isa.specs.Meaning.Texts.{target_line}

-- no long line is the one of a target
short_target : (target : Target) → length (tight (target_line target)) ≤ 80
unfolding tight
short_target Neon = lit≤ tt
short_target Avx2 = lit≤ tt
short_target Hvx = lit≤ tt

pub long_line : (line : List ℕ) (target : Target) → 80 < length (tight line) → IsLine line (target_line target) → ⊥
long_line line target long is = let short = short_target target in absurd (omega (arith, ap (λ (l : List ℕ). length l) is))
