-- What is so of a row's whole program.
use Rattle.std.proofs.Common.{◌≡◌, ℕ, ◌+◌, ◌*◌, ◌^◌, ◌<◌, ◌≤◌, List, [], ◌∷◌, ◌++◌, length, get_or, All, arith, ap, sym, subst, ◌∙◌, append_assoc, length-append}
use Rattle.std.specs.Prelude.{codes}
use Rattle.std.proofs.lemmas.List.{length-map}
use Rattle.std.proofs.lemmas.List.Elements.{All-get_or, All-weaker, All-map}
use Rattle.pf_values.specs.declared.names.Tap.{Tap}
use Rattle.pf_machine.specs.declared.code.Line.{Line}
use Rattle.pf_machine.specs.declared.code.Label.{Label}
use Rattle.pf_machine.specs.declared.block.Item.{Item}
use Rattle.pf_machine.specs.declared.block.Item.TheVariants.{Vector as Operation, TapLoad, OutStore, SlotLoad, SlotStore}
use Rattle.pf_machine.specs.Meaning.Blocks.{IsWithin}
use Rattle.pf_machine.specs.declared.program.Head.{Head}
use Rattle.pf_machine.specs.Meaning.Heads.{IsHead, IsDecl, IsTap}
use Rattle.pf_machine.specs.Meaning.Moved.{Moved, Work}
use Rattle.pf_machine.specs.Meaning.Programs.{IsProgram, ProgramOf}
use Rattle.pf_machine.specs.Meaning.Runs.{pixel_bytes}
use Rattle.pf_machine.specs.Meaning.Tables.{Table, IsTable}
use Rattle.pf_rows.specs.Meaning.Scratch.{slot_at}
use Rattle.pf_rows.specs.Meaning.BlockRows.{tap_widths, IsRowBlock, block_cost}
use Rattle.pf_values.specs.Meaning.Kernels.{no_decl}
use Rattle.pf_rows.specs.Steps.RowCode.{begin_lines, block_lines, next_lines, tail_lines, last_lines, narrow_lines, row_code, row_labels, copy_labels, label, next_at, back_at, row_text, SlotEndsBelow, IsPixel}
use Rattle.pf_rows.proofs.RowPlaces.{span}
use Rattle.pf_rows.proofs.Placed.{pixel_one_or_two}
use Rattle.pf_rows.proofs.Moves.{row_moved}
use Rattle.pf_rows.proofs.RowWork.{row_work}
use Rattle.pf_rows.proofs.LabelLaws.{labels_are, labels_distinct}
use Rattle.pf_rows.proofs.Instructions.{code_is, code_ends}

pub widths_count : (h : Head) → length (tap_widths h) ≡ length h.taps
widths_count h = length-map h.taps (λ (t : Tap). pixel_bytes (get_or h.images t.image no_decl).ty)

pub widths_low : (h : Head) → IsHead h → All (λ w. w ≤ 2) (tap_widths h)
widths_low h is =
    All-map (λ w. w ≤ 2) (λ (t : Tap). pixel_bytes (get_or h.images t.image no_decl).ty) h.taps
    (All-weaker (IsTap (length h.images)) (λ t. pixel_bytes (get_or h.images t.image no_decl).ty ≤ 2)
    (λ t tap. let d : IsDecl (get_or h.images t.image no_decl) = All-get_or IsDecl h.images t.image no_decl tap.image is.images in (pixel_one_or_two (get_or h.images t.image no_decl).ty d.ty).1) h.taps is.taps)

module _ (I O : Type 0) (t : Table O) (h : Head) (slots : ℕ) (block : List (Item O)) (fit : IsRowBlock t h slots block) where
  few : length (tap_widths h) ≤ 64
  few = let count = widths_count h in let head = fit.head in let most = head.few_taps in omega arith

  small_out : pixel_bytes h.out_ty ≤ 2
  small_out = let head = fit.head in (pixel_one_or_two h.out_ty head.out_ty).1

  small : All (λ w. w ≤ 2) (tap_widths h)
  small = widths_low h fit.head

  module _ (is_op : O → Type 0) (laws : IsTable t is_op) where
    pub row_is_program : IsProgram t (row_text I t h block)
    row_is_program =
        let loads = λ (to part : ℕ) (known : to < t.vectors) (low : part ≤ 1). laws.load_over to part known (omega arith) in
        let keeps = λ (from part : ℕ) (known : from < t.vectors) (low : part ≤ 1). laws.store_over from part known (omega arith) in
        let width = pixel_bytes h.out_ty in
        let widths = tap_widths h in
        let clean = fit.clean in
        record {
          head = fit.head;
          code = code_is I O t widths width block few laws.few_bytes laws.some_bytes slots loads keeps small small_out clean.within fit.steps;
          last = code_ends I O t widths width block few laws.few_bytes laws.some_bytes slots loads keeps small small_out clean.within fit.steps;
          labels = labels_are I O t widths width block few;
          distinct = labels_distinct I O t widths width block few;
        }

    pub row_is_moved : Moved t (length h.taps) (row_code {I = I} t (tap_widths h) (pixel_bytes h.out_ty) block) (row_labels I t (tap_widths h) (pixel_bytes h.out_ty) block)
    row_is_moved =
        let clean = fit.clean in
        subst (λ c. Moved t c (row_code {I = I} t (tap_widths h) (pixel_bytes h.out_ty) block) (row_labels I t (tap_widths h) (pixel_bytes h.out_ty) block)) (widths_count h)
        (row_moved I O t is_op laws slots (pixel_bytes h.out_ty) (tap_widths h) block small small_out clean.within fit.steps)

    pub row_is_work : Work t (row_code {I = I} t (tap_widths h) (pixel_bytes h.out_ty) block) ≡ block_cost t block
    row_is_work = row_work I O t is_op laws (pixel_bytes h.out_ty) (tap_widths h) block small small_out fit.steps

-- The code and its labels, part by part

pub joined : {A : Type 0} (k0 k1 k2 k3 k4 k5 k6 k7 begin items next tail last narrow back : List A) → k0 ≡ [] → k1 ≡ k0 ++ begin → k2 ≡ k1 ++ items
    → k3 ≡ k2 ++ next → k4 ≡ k3 ++ tail → k5 ≡ k4 ++ last → k6 ≡ k5 ++ narrow → k7 ≡ k6 ++ back
    → k7 ≡ begin ++ (items ++ (next ++ (tail ++ (last ++ (narrow ++ back)))))
joined k0 k1 k2 k3 k4 k5 k6 k7 begin items next tail last narrow back e0 e1 e2 e3 e4 e5 e6 e7 =
    let f1 : k1 ≡ begin = e1 ∙ ap (λ l. l ++ begin) e0 in
    let f2 : k2 ≡ begin ++ items = e2 ∙ ap (λ l. l ++ items) f1 in
    let f3 : k3 ≡ (begin ++ items) ++ next = e3 ∙ ap (λ l. l ++ next) f2 in
    let f4 : k4 ≡ ((begin ++ items) ++ next) ++ tail = e4 ∙ ap (λ l. l ++ tail) f3 in
    let f5 : k5 ≡ (((begin ++ items) ++ next) ++ tail) ++ last = e5 ∙ ap (λ l. l ++ last) f4 in
    let f6 : k6 ≡ ((((begin ++ items) ++ next) ++ tail) ++ last) ++ narrow = e6 ∙ ap (λ l. l ++ narrow) f5 in
    let flat : (((((begin ++ items) ++ next) ++ tail) ++ last) ++ narrow) ++ back ≡ begin ++ (items ++ (next ++ (tail ++ (last ++ (narrow ++ back))))) = simp append_assoc in
    e7 ∙ ap (λ l. l ++ back) f6 ∙ flat

module _ (I O : Type 0) (t : Table O) (widths : List ℕ) (width : ℕ) (block : List (Item O)) where
  pub labels_joined : (k0 k1 k2 k3 k4 k5 k6 : List (Line I O)) (l0 l1 l2 l3 l4 l5 l6 : List Label) (n1 n2 n3 n4 : List ℕ) → k0 ≡ []
      → k1 ≡ k0 ++ begin_lines t.vector (length widths) → k2 ≡ k1 ++ block_lines t widths width block → k3 ≡ k2 ++ next_lines t.vector → k4 ≡ k3 ++ tail_lines
      → k5 ≡ k4 ++ last_lines t.vector → k6 ≡ k5 ++ narrow_lines t.vector widths
      → n1 ≡ codes "block" → n2 ≡ codes "tail" → n3 ≡ codes "last" → n4 ≡ codes "narrow"
      → l0 ≡ [] → l1 ≡ l0 ++ label n1 (length k1) ∷ [] → l2 ≡ l1 ++ label n2 (length k3) ∷ [] → l3 ≡ l2 ++ label n3 (length k4) ∷ []
      → l4 ≡ l3 ++ label n4 (length k5) ∷ []
      → l5 ≡ l4 ++ copy_labels I O t.vector (length widths) 0 (length k5) widths
      → l6 ≡ l5 ++ label (codes "back") (length k6) ∷ label (codes "loop") (length k6 + 1) ∷ []
      → l6 ≡ row_labels I t widths width block
  labels_joined k0 k1 k2 k3 k4 k5 k6 l0 l1 l2 l3 l4 l5 l6 n1 n2 n3 n4 e0 e1 e2 e3 e4 e5 e6 m1 m2 m3 m4 h0 h1 h2 h3 h4 h5 h6 =
      let b = next_at I t widths width block in
      let narrow : List (Line I O) = narrow_lines t.vector widths in
      let items : List (Line I O) = block_lines t widths width block in
      let begin : List (Line I O) = begin_lines t.vector (length widths) in
      let next : List (Line I O) = next_lines t.vector in
      let tail : List (Line I O) = tail_lines in
      let last : List (Line I O) = last_lines t.vector in
      let s0 : length k0 ≡ 0 = ap length e0 in
      let s1 : length k1 ≡ 7 = ap length e1 ∙ length-append k0 begin ∙ omega arith in
      let s2 : length k2 ≡ b = ap length e2 ∙ length-append k1 items ∙ ap (λ m. m + length items) s1 in
      let s3 : length k3 ≡ b + 8 = ap length e3 ∙ length-append k2 next ∙ ap (λ m. m + 8) s2 in
      let s4 : length k4 ≡ b + 11 = ap length e4 ∙ length-append k3 tail ∙ omega arith in
      let s5 : length k5 ≡ b + 13 = ap length e5 ∙ length-append k4 last ∙ omega arith in
      let s6 : length k6 ≡ back_at I t widths width block = ap length e6 ∙ length-append k5 narrow ∙ ap (λ m. m + length narrow) s5 in
      let d1 : label n1 (length k1) ≡ label (codes "block") 7 = ap (λ n. label n (length k1)) m1 ∙ ap (λ m. label (codes "block") m) s1 in
      let d2 : label n2 (length k3) ≡ label (codes "tail") (b + 8) = ap (λ n. label n (length k3)) m2 ∙ ap (λ m. label (codes "tail") m) s3 in
      let d3 : label n3 (length k4) ≡ label (codes "last") (b + 11) = ap (λ n. label n (length k4)) m3 ∙ ap (λ m. label (codes "last") m) s4 in
      let d4 : label n4 (length k5) ≡ label (codes "narrow") (b + 13) = ap (λ n. label n (length k5)) m4 ∙ ap (λ m. label (codes "narrow") m) s5 in
      let one : Label = label (codes "block") 7 in
      let two : Label = label (codes "tail") (b + 8) in
      let three : Label = label (codes "last") (b + 11) in
      let four : Label = label (codes "narrow") (b + 13) in
      let g1 : l1 ≡ one ∷ [] = h1 ∙ ap (λ l. l ++ label n1 (length k1) ∷ []) h0 ∙ ap (λ d. d ∷ []) d1 in
      let g2 : l2 ≡ one ∷ two ∷ [] = h2 ∙ ap (λ l. l ++ label n2 (length k3) ∷ []) g1 ∙ ap (λ d. one ∷ d ∷ []) d2 in
      let g3 : l3 ≡ one ∷ two ∷ three ∷ [] = h3 ∙ ap (λ l. l ++ label n3 (length k4) ∷ []) g2 ∙ ap (λ d. one ∷ two ∷ d ∷ []) d3 in
      let g4 : l4 ≡ one ∷ two ∷ three ∷ four ∷ [] = h4 ∙ ap (λ l. l ++ label n4 (length k5) ∷ []) g3 ∙ ap (λ d. one ∷ two ∷ three ∷ d ∷ []) d4 in
      let copies = copy_labels I O t.vector (length widths) 0 (b + 13) widths in
      let g5 : l5 ≡ one ∷ two ∷ three ∷ four ∷ copies = h5 ∙ ap (λ l. l ++ copy_labels I O t.vector (length widths) 0 (length k5) widths) g4 ∙ ap (λ m. one ∷ two ∷ three ∷ four ∷ copy_labels I O t.vector (length widths) 0 m widths) s5 in
      h6 ∙ ap (λ l. l ++ label (codes "back") (length k6) ∷ label (codes "loop") (length k6 + 1) ∷ []) g5
      ∙ ap (λ m. one ∷ two ∷ three ∷ four ∷ (copies ++ label (codes "back") m ∷ label (codes "loop") (m + 1) ∷ [])) s6

-- What the parts of a row's code ask of the block

near_item : {O : Type 0} (t : Table O) (vector taps slots : ℕ) (item : Item O) → slot_at vector taps slots ≤ 2 ^ 30 → IsWithin t t.vectors slots item
    → SlotEndsBelow vector taps (2 ^ 30) item
near_item t vector taps slots (Operation op) low within = tt
near_item t vector taps slots (TapLoad to tap part) low within = tt
near_item t vector taps slots (OutStore from part) low within = tt
near_item t vector taps slots (SlotLoad to slot) low within =
    let known = within.1 in
    let room : vector * slot + vector * 1 ≤ vector * slots = span vector slot 1 slots (omega arith) in
    omega arith
near_item t vector taps slots (SlotStore from slot) low within =
    let known = within.1 in
    let room : vector * slot + vector * 1 ≤ vector * slots = span vector slot 1 slots (omega arith) in
    omega arith

pub near_block : {O : Type 0} (t : Table O) (h : Head) (slots : ℕ) (block : List (Item O)) → IsRowBlock t h slots block → (widths : List ℕ)
    → widths ≡ tap_widths h → All (λ i. SlotEndsBelow t.vector (length widths) (2 ^ 30) i) block
near_block t h slots block fit widths same =
    let clean = fit.clean in
    let head = fit.head in
    let low = head.scratch in
    let count : length widths ≡ length h.taps = ap length same ∙ widths_count h in
    let room : slot_at t.vector (length widths) slots ≤ 2 ^ 30 = subst (λ c. slot_at t.vector c slots ≤ 2 ^ 30) (sym count) (subst (λ s. s ≤ 2 ^ 30) fit.scratch low) in
    All-weaker (IsWithin t t.vectors slots) (λ i. SlotEndsBelow t.vector (length widths) (2 ^ 30) i) (λ i within. near_item t t.vector (length widths) slots i room within) block clean.within

pub widths_pixels : (h : Head) → IsHead h → (widths : List ℕ) → widths ≡ tap_widths h → All IsPixel widths
widths_pixels h is widths same =
    subst (λ l. All IsPixel l) (sym same)
    (All-map IsPixel (λ (t : Tap). pixel_bytes (get_or h.images t.image no_decl).ty) h.taps
    (All-weaker (IsTap (length h.images)) (λ t. IsPixel (pixel_bytes (get_or h.images t.image no_decl).ty))
    (λ t tap. let d : IsDecl (get_or h.images t.image no_decl) = All-get_or IsDecl h.images t.image no_decl tap.image is.images in pixel_one_or_two (get_or h.images t.image no_decl).ty d.ty) h.taps is.taps))

-- The whole text

abbrev pub text_of : {I O : Type 0} → Head → List (Line I O) → List Label → ProgramOf I O
text_of head code labels = record { head = head; code = code; labels = labels }

pub text_is : (I O : Type 0) (t : Table O) (h : Head) (block : List (Item O)) (widths : List ℕ) (width : ℕ) (code : List (Line I O)) (labels : List Label)
    → code ≡ row_code t widths width block → labels ≡ row_labels I t widths width block → widths ≡ tap_widths h → width ≡ pixel_bytes h.out_ty
    → text_of h code labels ≡ row_text I t h block
text_is I O t h block widths width code labels one two three four =
    let code_is : code ≡ row_code t (tap_widths h) (pixel_bytes h.out_ty) block = one ∙ ap (λ ws. row_code t ws width block) three ∙ ap (λ w. row_code t (tap_widths h) w block) four in
    let labels_is : labels ≡ row_labels I t (tap_widths h) (pixel_bytes h.out_ty) block = two ∙ ap (λ ws. row_labels I t ws width block) three ∙ ap (λ w. row_labels I t (tap_widths h) w block) four in
    ap (λ l. text_of h l labels) code_is ∙ ap (λ l. text_of h (row_code t (tap_widths h) (pixel_bytes h.out_ty) block) l) labels_is
