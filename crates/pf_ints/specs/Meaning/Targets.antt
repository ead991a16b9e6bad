-- The words of the targets.
use Rattle.std.specs.Prelude.{ℕ, List, codes}
use Rattle.pf_ints.specs.declared.target.Target.{Target}
use Rattle.pf_ints.specs.declared.target.Target.TheVariants.{Neon, Avx2, Hvx}

abbrev pub target_word : Target → List ℕ
target_word Neon = codes "neon"
target_word Avx2 = codes "avx2"
target_word Hvx = codes "hvx"
