use Rattle.std.proofs.Common.{◌≡◌, ℕ, ◌+◌, ◌<◌, List, [], ◌∷◌, ◌++◌, All, length, map, take, get_or, ap, sym, subst, ◌∙◌}
use Rattle.std.specs.Prelude.{pos}
use Rattle.std.proofs.lemmas.List.{map-append, take_more, get_or_default}
use Rattle.std.proofs.lemmas.List.Elements.{All-get_or}
use Rattle.pf_values.specs.declared.kernel.ImageDecl.{ImageDecl}
use Rattle.pf_values.specs.declared.names.Tap.{Tap}
use Rattle.pf_machine.specs.Meaning.Heads.{IsTap}
use Rattle.pf_machine.specs.Meaning.Runs.{pixel_bytes}
use Rattle.pf_values.specs.Meaning.Kernels.{no_decl}
use Rattle.pf_rows.proofs.program.widths_of.Goals as goal

-- one tap's bytes more
one_more : (images : List ImageDecl) (taps : List Tap) (i k v : ℕ) (d : Tap) (e : ImageDecl) (old new : List ℕ) → All (IsTap (length images)) taps → i < length taps → k ≡ (get_or taps i d).image → v ≡ pixel_bytes (get_or images k e).ty → new ≡ old ++ v ∷ []
    → old ≡ map (λ t. pixel_bytes (get_or images t.image no_decl).ty) (take i taps) → new ≡ map (λ t. pixel_bytes (get_or images t.image no_decl).ty) (take (i + 1) taps)
one_more images taps i k v d e old new are inside image value pushed before =
    let f = λ (t : Tap). pixel_bytes (get_or images t.image no_decl).ty in
    let tap = get_or taps i d in
    let is : IsTap (length images) tap = All-get_or (IsTap (length images)) taps i d inside are in
    let read : get_or images tap.image e ≡ get_or images tap.image no_decl = get_or_default images tap.image e no_decl is.image in
    let here : v ≡ f tap = value ∙ ap (λ m. pixel_bytes (get_or images m e).ty) image ∙ ap (λ p. pixel_bytes p.ty) read in
    pushed ∙ ap (λ l. l ++ v ∷ []) before ∙ ap (λ m. map f (take i taps) ++ m ∷ []) here ∙ sym (map-append f (take i taps) (tap ∷ [])) ∙ ap (λ l. map f l) (sym (take_more taps i d inside))

pub loop-tap-preserved : goal.loop-tap-preserved
loop-tap-preserved c =
    let images = c.as_slice-images.ensures in
    let taps = c.as_slice-tap-items.ensures in
    let within : c.loop-tap.tap-index < length c.args.head.now.taps = subst (λ l. c.loop-tap.tap-index < length l) taps c.loop-tap-test.true in
    let first : Tap = record { image = 0; dx = pos 0; dy = pos 0 } in
    one_more c.args.head.now.images c.args.head.now.taps c.loop-tap.tap-index c.from.result c.bytes.result first c.index-images-from.result c.loop-tap.widths c.push.new.self c.requires.taps within
    (subst (λ (l : List Tap). c.from.result ≡ (get_or l c.loop-tap.tap-index first).image) taps c.from.ensures)
    (subst (λ (l : List ImageDecl). c.bytes.result ≡ pixel_bytes (get_or l c.from.result c.index-images-from.result).ty) images c.bytes.ensures.value)
    c.in_ok-push.ensures.ok c.loop-tap.invariant
