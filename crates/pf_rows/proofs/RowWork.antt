-- The work of a row's code is the block's.
use Rattle.std.proofs.Common.{◌≡◌, ℕ, zero, suc, ◌+◌, ◌*◌, ◌/◌, ◌%◌, ◌≤◌, List, [], ◌∷◌, ◌++◌, length, get_or, All, false, refl, arith, ap, sym, ◌∙◌}
use Rattle.std.specs.Prelude.{codes, replicate}
use Rattle.std.specs.List.{sum_by}
use Rattle.std.proofs.lemmas.List.Sums.{sum-map, sum_by-append, sum_by-cons}
use Rattle.std.proofs.lemmas.List.Elements.{All-head, All-tail, All-get_or}
use Rattle.pf_machine.specs.declared.control.Control.TheVariants.{LoadPtr, StorePtr, Imm, AddImm, Compare, Below, Jump, Return}
use Rattle.pf_machine.specs.declared.code.Line.{Line}
use Rattle.pf_machine.specs.declared.code.Line.TheVariants.{Vector, Control as Controls}
use Rattle.pf_machine.specs.declared.block.Item.{Item}
use Rattle.pf_machine.specs.declared.block.Item.TheVariants.{Vector as Operation, TapLoad, OutStore, SlotLoad, SlotStore}
use Rattle.pf_machine.specs.Meaning.Tables.{Table, IsTable}
use Rattle.pf_machine.specs.Meaning.Moved.{Work, line_cost}
use Rattle.pf_rows.specs.Meaning.Scratch.{slot_at, buffer_at}
use Rattle.pf_rows.specs.Meaning.BlockRows.{IsBlockItem, item_cost, block_cost}
use Rattle.pf_rows.specs.Steps.RowCode.{begin_lines, pixel_lines, last_pages, scratch_lines, item_lines, block_lines, next_lines, tail_lines, last_lines, load_value, store_value, copy_turn, copy_label, tap_copy, tap_copies, narrow_lines, back_lines, row_code}

module _ (I O : Type 0) (t : Table O) where
  abbrev W : List (Line I O) → ℕ
  W lines = Work t lines

  work-append : (xs ys : List (Line I O)) → W (xs ++ ys) ≡ W xs + W ys
  work-append xs ys =
      let f : Line I O → ℕ = λ line. line_cost t line in
      sum-map f (xs ++ ys) ∙ sum_by-append f xs ys ∙ ap (λ m. m + sum_by f ys) (sym (sum-map f xs)) ∙ ap (λ m. W xs + m) (sym (sum-map f ys))

  work_pixels : (r width : ℕ) → W (pixel_lines r width) ≡ 0
  work_pixels r zero = refl
  work_pixels r (suc width) = let rest = work_pixels r width in omega arith

  work_pages : (r by count : ℕ) → W (replicate count (Controls (AddImm r r false by))) ≡ 0
  work_pages r by zero = refl
  work_pages r by (suc count) = let rest = work_pages r by count in omega arith

  work_last : (r pages : ℕ) → W (last_pages r pages) ≡ 0
  work_last r zero = refl
  work_last r (suc pages) = refl

  work_scratch : (r offset : ℕ) → W (scratch_lines r offset) ≡ 0
  work_scratch r offset =
      let pages = offset / 4096 in
      let front : List (Line I O) = replicate (pages / 4095) (Controls (AddImm r r false 16773120)) in
      let last : List (Line I O) = last_pages r (pages % 4095) in
      let free = work_last r (pages % 4095) in
      let both = work-append front last in
      let none = work_pages r 16773120 (pages / 4095) in
      omega arith

  work_value : (width : ℕ) (rest : List (Line I O)) → W (load_value width ∷ rest) ≡ W rest
  work_value zero rest = omega arith
  work_value (suc zero) rest = omega arith
  work_value (suc (suc width)) rest = omega arith

  work_kept : (width : ℕ) (rest : List (Line I O)) → W (store_value width ∷ rest) ≡ W rest
  work_kept zero rest = omega arith
  work_kept (suc zero) rest = omega arith
  work_kept (suc (suc width)) rest = omega arith

  module _ (is_op : O → Type 0) (laws : IsTable t is_op) where
    work_item : (width : ℕ) (widths : List ℕ) (item : Item O) → All (λ w. w ≤ 2) widths → width ≤ 2 → IsBlockItem widths width item
        → W (item_lines t widths width item) ≡ item_cost t item
    work_item width widths (Operation op) few low step = omega arith
    work_item width widths (TapLoad to tap part) few low step =
        let by = get_or widths tap 0 in
        let small : by ≤ 2 = All-get_or (λ w. w ≤ 2) widths tap 0 step.0 few in
        let inside = step.1 in
        let both = work-append (pixel_lines 5 by) (Vector (t.load to part) ∷ []) in
        let none = work_pixels 5 by in
        let free = laws.load_cost to part in
        omega arith
    work_item width widths (OutStore from part) few low step =
        let both = work-append (pixel_lines 5 width) (Vector (t.store from part) ∷ []) in
        let none = work_pixels 5 width in
        let free = laws.store_cost from part in
        omega arith
    work_item width widths (SlotLoad to slot) few low step =
        let offset = slot_at t.vector (length widths) slot in
        let both = work-append (scratch_lines 5 offset) (Vector (t.load to 0) ∷ []) in
        let none = work_scratch 5 offset in
        let free = laws.load_cost to 0 in
        omega arith
    work_item width widths (SlotStore from slot) few low step =
        let offset = slot_at t.vector (length widths) slot in
        let both = work-append (scratch_lines 5 offset) (Vector (t.store from 0) ∷ []) in
        let none = work_scratch 5 offset in
        let free = laws.store_cost from 0 in
        omega arith

    work_block : (width : ℕ) (widths : List ℕ) (block : List (Item O)) → All (λ w. w ≤ 2) widths → width ≤ 2 → All (IsBlockItem widths width) block
        → W (block_lines t widths width block) ≡ block_cost t block
    work_block width widths [] few low steps = refl
    work_block width widths (item ∷ block) few low steps =
        let one = work_item width widths item few low (All-head (IsBlockItem widths width) item block steps) in
        let rest = work_block width widths block few low (All-tail (IsBlockItem widths width) item block steps) in
        let f : Item O → ℕ = λ i. item_cost t i in
        let cost : block_cost t (item ∷ block) ≡ item_cost t item + block_cost t block = sum-map f (item ∷ block) ∙ sum_by-cons f item block ∙ ap (λ m. f item + m) (sym (sum-map f block)) in
        work-append (item_lines t widths width item) (block_lines t widths width block) ∙ omega arith

  work_turn : (from to : List (Line I O)) (width : ℕ) (name : List ℕ) → W from ≡ 0 → W to ≡ 0 → W (copy_turn from to width name) ≡ 0
  work_turn from to width name one two =
      let end : List (Line I O) = Controls (AddImm 3 3 false 1) ∷ Controls (Compare 3 1) ∷ Controls (Below name) ∷ [] in
      let ends : List (Line I O) = store_value width ∷ end in
      let last : List (Line I O) = pixel_lines 7 width ++ ends in
      let middle : List (Line I O) = to ++ last in
      let start : List (Line I O) = load_value width ∷ middle in
      let a = work-append from (pixel_lines 5 width ++ start) in
      let b = work-append (pixel_lines 5 width) start in
      let c = work_value width middle in
      let d = work-append to last in
      let e = work-append (pixel_lines 7 width) ends in
      let f = work_kept width end in
      let g = work_pixels 5 width in
      let i = work_pixels 7 width in
      let none : W end ≡ 0 = refl in
      a ∙ omega arith

  work_copy : (vector all k width : ℕ) → W (tap_copy vector all k width) ≡ 0
  work_copy vector all k width =
      let offset = buffer_at vector all k in
      let from : List (Line I O) = Controls (LoadPtr 5 4 k) ∷ [] in
      let to : List (Line I O) = scratch_lines 7 offset in
      let turn : List (Line I O) = copy_turn from to width (copy_label k) in
      let keep : List (Line I O) = Controls (StorePtr 2 k 7) ∷ [] in
      let none = work_scratch 7 offset in
      let a : W (turn ++ (to ++ keep)) ≡ W turn + W (to ++ keep) = work-append turn (to ++ keep) in
      let b : W (to ++ keep) ≡ W to + 0 = work-append to keep in
      let c : W turn ≡ 0 = work_turn from to width (copy_label k) refl none in
      let all_of : W (tap_copy vector all k width) ≡ W (turn ++ (to ++ keep)) = refl in
      all_of ∙ omega arith

  work_copies : (vector all k : ℕ) (widths : List ℕ) → W (tap_copies vector all k widths) ≡ 0
  work_copies vector all k [] = refl
  work_copies vector all k (width ∷ widths) =
      let one = work_copy vector all k width in
      let rest = work_copies vector all (k + 1) widths in
      work-append (tap_copy vector all k width) (tap_copies vector all (k + 1) widths) ∙ omega arith

  work_narrow : (vector : ℕ) (widths : List ℕ) → W (narrow_lines vector widths) ≡ 0
  work_narrow vector widths =
      let all = length widths in
      let offset = buffer_at vector all all in
      let end : List (Line I O) = Controls (StorePtr 2 all 7) ∷ Controls (AddImm 0 2 false 0) ∷ Controls (Imm 3 0) ∷ Controls (Jump (codes "block")) ∷ [] in
      let pointer : List (Line I O) = scratch_lines 7 offset in
      let copies : List (Line I O) = tap_copies vector all 0 widths in
      let a = work-append copies (pointer ++ end) in
      let b : W (pointer ++ end) ≡ W pointer + 0 = work-append pointer end in
      let c = work_copies vector all 0 widths in
      let d = work_scratch 7 offset in
      a ∙ omega arith

  work_back : (vector taps width : ℕ) → W (back_lines vector taps width) ≡ 0
  work_back vector taps width =
      let offset = buffer_at vector taps taps in
      let from : List (Line I O) = scratch_lines 5 offset in
      let to : List (Line I O) = Controls (LoadPtr 7 4 taps) ∷ [] in
      let turn : List (Line I O) = copy_turn from to width (codes "loop") in
      let end : List (Line I O) = Controls Return ∷ [] in
      let a : W (turn ++ end) ≡ W turn + 0 = work-append turn end in
      let b : W turn ≡ 0 = work_turn from to width (codes "loop") (work_scratch 5 offset) refl in
      let all_of : W (back_lines vector taps width) ≡ W (turn ++ end) = refl in
      all_of ∙ omega arith

  pub row_work : (is_op : O → Type 0) → IsTable t is_op → (width : ℕ) (widths : List ℕ) (block : List (Item O)) → All (λ w. w ≤ 2) widths → width ≤ 2
      → All (IsBlockItem widths width) block → Work t (row_code {I = I} t widths width block) ≡ block_cost t block
  row_work is_op laws width widths block few low steps =
      let back : List (Line I O) = back_lines t.vector (length widths) width in
      let narrow : List (Line I O) = narrow_lines t.vector widths in
      let last : List (Line I O) = last_lines t.vector in
      let tail : List (Line I O) = tail_lines in
      let next : List (Line I O) = next_lines t.vector in
      let items : List (Line I O) = block_lines t widths width block in
      let begin : List (Line I O) = begin_lines t.vector (length widths) in
      let rest : List (Line I O) = next ++ (tail ++ (last ++ (narrow ++ back))) in
      let a : W (begin ++ (items ++ rest)) ≡ 0 + W (items ++ rest) = work-append begin (items ++ rest) in
      let b = work-append items rest in
      let c : W rest ≡ 0 + W (tail ++ (last ++ (narrow ++ back))) = work-append next (tail ++ (last ++ (narrow ++ back))) in
      let d : W (tail ++ (last ++ (narrow ++ back))) ≡ 0 + W (last ++ (narrow ++ back)) = work-append tail (last ++ (narrow ++ back)) in
      let e : W (last ++ (narrow ++ back)) ≡ 0 + W (narrow ++ back) = work-append last (narrow ++ back) in
      let f = work-append narrow back in
      let g = work_narrow t.vector widths in
      let i = work_back t.vector (length widths) width in
      let j = work_block is_op laws width widths block few low steps in
      a ∙ omega arith
