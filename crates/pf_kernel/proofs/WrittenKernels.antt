-- A kernel's written text is a text of the kernel.
use Rattle.std.proofs.Common.{◌≡◌, refl, sym, ◌∙◌, ap, subst, ℕ, List, [], ◌∷◌, ◌++◌, append_assoc}
use Rattle.std.specs.Prelude.{codes}
use Rattle.std.specs.List.{flat_map}
use Rattle.pf_ints.specs.declared.lane.LaneType.{LaneType}
use Rattle.pf_values.specs.declared.kernel.Definition.{Definition}
use Rattle.pf_values.specs.declared.kernel.ImageDecl.{ImageDecl}
use Rattle.pf_values.specs.declared.names.Names.{Names}
use Rattle.pf_values.specs.declared.term.Term.{Term}
use Rattle.pf_kernel.specs.Meaning.Kernels.{Meaning, names_of, IsKernelOf}
use Rattle.pf_kernel.specs.Meaning.Lines.{nothing, AreRead}
use Rattle.pf_kernel.specs.Meaning.Texts.{all_of, image_text, typed_text, def_text, ended, kernel_text, IsKernel}
use Rattle.pf_kernel.proofs.WrittenReads.{lines_read}
use Rattle.pf_kernel.proofs.WrittenLines.{written_lines, written_short}

-- ---- the parts of the text, one written behind the other
joined : (word name end images defs out typed : List ℕ) → (((((word ++ name) ++ end) ++ images) ++ defs) ++ out) ++ (typed ++ end) ≡ ((word ++ name) ++ end) ++ (images ++ (defs ++ ((out ++ typed) ++ end)))
joined word name end images defs out typed = simp append_assoc refl

pub written_text : (k : Meaning) (name : List ℕ) (images : List ImageDecl) (defs : List Definition) (names more : Names) (ty : LaneType) (out : Term) (a b c d e f g h : List ℕ) →
    name ≡ k.name → images ≡ k.source.images → defs ≡ k.source.defs → names ≡ names_of k.source → more ≡ names_of k.source → ty ≡ k.source.out_ty → out ≡ k.source.out →
    a ≡ [] → b ≡ a ++ codes "kernel " → c ≡ b ++ name → d ≡ c ++ 10 ∷ [] → e ≡ d ++ flat_map (λ x. ended (image_text x)) images → f ≡ e ++ flat_map (λ x. ended (def_text names x)) defs → g ≡ f ++ codes "out " → h ≡ g ++ ended (typed_text more ty out) → h ≡ kernel_text k
written_text k name images defs names more ty out a b c d e f g h is_name is_images is_defs is_names is_more is_ty is_out begin word named lined imaged defined outed typed =
    let first : b ≡ codes "kernel " = word ∙ ap (λ t. t ++ codes "kernel ") begin in
    let second : d ≡ (codes "kernel " ++ k.name) ++ 10 ∷ [] = lined ∙ ap (λ t. t ++ 10 ∷ []) (named ∙ (λ i. first i ++ is_name i)) in
    let third : e ≡ ((codes "kernel " ++ k.name) ++ 10 ∷ []) ++ flat_map (λ x. ended (image_text x)) k.source.images = imaged ∙ (λ i. second i ++ flat_map (λ x. ended (image_text x)) (is_images i)) in
    let fourth : f ≡ (((codes "kernel " ++ k.name) ++ 10 ∷ []) ++ flat_map (λ x. ended (image_text x)) k.source.images) ++ flat_map (λ x. ended (def_text (names_of k.source) x)) k.source.defs =
    defined ∙ (λ i. third i ++ flat_map (λ x. ended (def_text (is_names i) x)) (is_defs i)) in
    typed ∙ (λ i. (outed ∙ ap (λ t. t ++ codes "out ") fourth) i ++ ended (typed_text (is_more i) (is_ty i) (is_out i)))
    ∙ joined (codes "kernel ") k.name (10 ∷ []) (flat_map (λ x. ended (image_text x)) k.source.images) (flat_map (λ x. ended (def_text (names_of k.source) x)) k.source.defs) (codes "out ")
    (typed_text (names_of k.source) k.source.out_ty k.source.out)

pub written_read : (k : Meaning) (text : List ℕ) → IsKernelOf k → text ≡ kernel_text k → IsKernel text k
written_read k text h e =
    subst (λ (bytes : List ℕ). IsKernel bytes k) (sym e)
    (record { short = written_short k h; lines_read = subst (λ (ls : List (List ℕ)). AreRead nothing ls (all_of k)) (sym (written_lines k h)) (lines_read k h) })
