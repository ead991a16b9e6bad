-- The lines of a kernel's text as it is written, without their ends.
use Rattle.std.specs.Prelude.{ℕ, List, [], ◌∷◌, ◌++◌, map, codes}
use Rattle.pf_kernel.specs.Meaning.Kernels.{Meaning, names_of}
use Rattle.pf_kernel.specs.Meaning.Texts.{image_text, def_text, typed_text}

abbrev pub out_text : Meaning → List ℕ
out_text k = codes "out " ++ typed_text (names_of k.source) k.source.out_ty k.source.out

abbrev pub kernel_lines : Meaning → List (List ℕ)
kernel_lines k = (codes "kernel " ++ k.name) ∷ (map image_text k.source.images ++ (map (def_text (names_of k.source)) k.source.defs ++ out_text k ∷ []))
