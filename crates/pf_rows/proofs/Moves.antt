-- The code of a row moves addresses and whole pixels alone, and its work is the block's.
use Rattle.std.proofs.Common.{◌≡◌, ℕ, zero, suc, ◌+◌, ◌*◌, ◌/◌, ◌%◌, ◌≤◌, List, [], ◌∷◌, ◌++◌, length, get_or, All, false, refl, arith, rules}
use Rattle.std.specs.Prelude.{codes, replicate}
use Rattle.std.proofs.lemmas.List.Elements.{All-nil, All-cons, All-head, All-tail, All-append, All-replicate, All-weaker, All-from_recursion, All-get_or}
use Rattle.pf_machine.specs.declared.control.Control.TheVariants.{LoadPtr, StorePtr, Imm, AddImm, AddReg, Compare, Below, Jump, Return}
use Rattle.pf_machine.specs.declared.code.Line.{Line}
use Rattle.pf_machine.specs.declared.code.Line.TheVariants.{Vector, Control as Controls}
use Rattle.pf_machine.specs.declared.code.Label.{Label}
use Rattle.pf_machine.specs.declared.block.Item.{Item}
use Rattle.pf_machine.specs.declared.block.Item.TheVariants.{Vector as Operation, TapLoad, OutStore, SlotLoad, SlotStore}
use Rattle.pf_machine.specs.Meaning.Tables.{Table, IsTable}
use Rattle.pf_machine.specs.Meaning.Blocks.{IsWithin}
use Rattle.pf_machine.specs.Meaning.Moved.{Moved, WritesOnly, OfControl, MovesPixel, MovesTable, MovesEnd, MovesPointer, MovesValue, StoresValue, Compares, StoresPointer, AccessesPointer}
use Rattle.pf_rows.specs.Meaning.Scratch.{slot_at, buffer_at}
use Rattle.pf_rows.specs.Meaning.BlockRows.{IsBlockItem}
use Rattle.pf_rows.specs.Steps.RowCode.{pixel_lines, last_pages, page_lines, scratch_lines, item_lines, block_lines, next_lines, tail_lines, last_lines, load_value, store_value, copy_turn, copy_label, tap_copy, tap_copies, narrow_lines, back_lines, row_code, row_labels, label, copy_labels, next_at, narrow_at, back_at}

-- what holds of each line behind the first
abbrev pub Moves : {I O : Type 0} → Table O → ℕ → Line I O → Type 0
Moves table taps line =
    WritesOnly 4 (λ _. ⊥) line × WritesOnly 1 (λ c. c ≡ LoadPtr 1 4 (taps + 2)) line × WritesOnly 2 (λ c. c ≡ LoadPtr 2 4 (taps + 1)) line × WritesOnly 3 MovesPixel line × WritesOnly 0 MovesTable line × WritesOnly 7 (MovesEnd taps) line × WritesOnly 5 MovesPointer line × WritesOnly 6 MovesValue line
    × OfControl StoresValue line × OfControl Compares line × OfControl StoresPointer line × AccessesPointer table line

module _ (I O : Type 0) (t : Table O) (taps : ℕ) where
  abbrev M : Line I O → Type 0
  M line = Moves t taps line

  next_moves : (vector : ℕ) → All M (next_lines vector)
  next_moves vector = All-from_recursion M (next_lines vector) (search rules)

  tail_moves : All M tail_lines
  tail_moves = All-from_recursion M tail_lines (search rules)

  last_moves : (vector : ℕ) → All M (last_lines vector)
  last_moves vector = All-from_recursion M (last_lines vector) (search rules)

  pixel_moves : (width : ℕ) → All M (pixel_lines 5 width)
  pixel_moves zero = All-nil M
  pixel_moves (suc width) = All-cons M (Controls (AddReg 5 5 3)) (pixel_lines 5 width) (search rules) (pixel_moves width)

  pixel_moves_end : (width : ℕ) → All M (pixel_lines 7 width)
  pixel_moves_end zero = All-nil M
  pixel_moves_end (suc width) = All-cons M (Controls (AddReg 7 7 3)) (pixel_lines 7 width) (search rules) (pixel_moves_end width)

  last_pages_move : (pages : ℕ) → All M (last_pages 5 pages)
  last_pages_move zero = All-nil M
  last_pages_move (suc pages) = All-from_recursion M (last_pages 5 (suc pages)) (search rules)

  last_pages_move_end : (pages : ℕ) → All M (last_pages 7 pages)
  last_pages_move_end zero = All-nil M
  last_pages_move_end (suc pages) = All-from_recursion M (last_pages 7 (suc pages)) (search rules)

  page_moves : (pages : ℕ) → All M (page_lines 5 pages)
  page_moves pages =
      let step : Line I O = Controls (AddImm 5 5 false 16773120) in
      All-append M (replicate (pages / 4095) step) (last_pages 5 (pages % 4095)) (All-replicate M (pages / 4095) step (search rules)) (last_pages_move (pages % 4095))

  page_moves_end : (pages : ℕ) → All M (page_lines 7 pages)
  page_moves_end pages =
      let step : Line I O = Controls (AddImm 7 7 false 16773120) in
      All-append M (replicate (pages / 4095) step) (last_pages 7 (pages % 4095)) (All-replicate M (pages / 4095) step (search rules)) (last_pages_move_end (pages % 4095))

  scratch_moves : (offset : ℕ) → All M (scratch_lines 5 offset)
  scratch_moves offset = All-cons M (Controls (AddImm 5 2 false (offset % 4096))) (page_lines 5 (offset / 4096)) (search rules) (page_moves (offset / 4096))

  scratch_moves_end : (offset : ℕ) → All M (scratch_lines 7 offset)
  scratch_moves_end offset = All-cons M (Controls (AddImm 7 2 false (offset % 4096))) (page_lines 7 (offset / 4096)) (search rules) (page_moves_end (offset / 4096))

  load_value_moves : (width : ℕ) → M (load_value width)
  load_value_moves zero = search rules
  load_value_moves (suc zero) = search rules
  load_value_moves (suc (suc width)) = search rules

  store_value_moves : (width : ℕ) → M (store_value width)
  store_value_moves zero = search rules
  store_value_moves (suc zero) = search rules
  store_value_moves (suc (suc width)) = search rules

  module _ (is_op : O → Type 0) (laws : IsTable t is_op) where
    load_moves : (to part : ℕ) → part ≤ 7 → M (Vector (t.load to part))
    load_moves to part low = let access = laws.load_access to part low in (tt, tt, tt, tt, tt, tt, tt, tt, tt, tt, tt, rw access refl)

    store_moves : (from part : ℕ) → part ≤ 7 → M (Vector (t.store from part))
    store_moves from part low = let access = laws.store_access from part low in (tt, tt, tt, tt, tt, tt, tt, tt, tt, tt, tt, rw access refl)

    one_line : (line : Line I O) → M line → All M (line ∷ [])
    one_line line moves = All-cons M line [] moves (All-nil M)

    item_moves : (slots width : ℕ) (widths : List ℕ) (item : Item O) → length widths ≡ taps → All (λ w. w ≤ 2) widths → width ≤ 2
        → IsWithin t t.vectors slots item → IsBlockItem widths width item → All M (item_lines t widths width item)
    item_moves slots width widths (Operation op) count few low within step =
        let plain = within.0 in
        one_line (Vector op) (tt, tt, tt, tt, tt, tt, tt, tt, tt, tt, tt, rw plain tt)
    item_moves slots width widths (TapLoad to tap part) count few low within step =
        let by = get_or widths tap 0 in
        let small : by ≤ 2 = All-get_or (λ w. w ≤ 2) widths tap 0 step.0 few in
        let inside = step.1 in
        let last : List (Line I O) = Vector (t.load to part) ∷ [] in
        All-cons M (Controls (LoadPtr 5 0 tap)) (pixel_lines 5 by ++ last) (search rules) (All-append M (pixel_lines 5 by) last (pixel_moves by) (one_line (Vector (t.load to part)) (load_moves to part (omega arith))))
    item_moves slots width widths (OutStore from part) count few low within step =
        let last : List (Line I O) = Vector (t.store from part) ∷ [] in
        All-cons M (Controls (LoadPtr 5 0 (length widths))) (pixel_lines 5 width ++ last) (search rules) (All-append M (pixel_lines 5 width) last (pixel_moves width) (one_line (Vector (t.store from part)) (store_moves from part (omega arith))))
    item_moves slots width widths (SlotLoad to slot) count few low within step =
        let offset = slot_at t.vector (length widths) slot in
        All-append M (scratch_lines 5 offset) (Vector (t.load to 0) ∷ []) (scratch_moves offset) (one_line (Vector (t.load to 0)) (load_moves to 0 (omega arith)))
    item_moves slots width widths (SlotStore from slot) count few low within step =
        let offset = slot_at t.vector (length widths) slot in
        All-append M (scratch_lines 5 offset) (Vector (t.store from 0) ∷ []) (scratch_moves offset) (one_line (Vector (t.store from 0)) (store_moves from 0 (omega arith)))

    block_moves : (slots width : ℕ) (widths : List ℕ) (block : List (Item O)) → length widths ≡ taps → All (λ w. w ≤ 2) widths → width ≤ 2
        → All (IsWithin t t.vectors slots) block → All (IsBlockItem widths width) block → All M (block_lines t widths width block)
    block_moves slots width widths [] count few low within steps = All-nil M
    block_moves slots width widths (item ∷ block) count few low within steps =
        All-append M (item_lines t widths width item) (block_lines t widths width block)
        (item_moves slots width widths item count few low (All-head (IsWithin t t.vectors slots) item block within) (All-head (IsBlockItem widths width) item block steps))
        (block_moves slots width widths block count few low (All-tail (IsWithin t t.vectors slots) item block within) (All-tail (IsBlockItem widths width) item block steps))

  turn_moves : (from to : List (Line I O)) (width : ℕ) (name : List ℕ) → All M from → All M to → All M (copy_turn from to width name)
  turn_moves from to width name one two =
      let end : List (Line I O) = Controls (AddImm 3 3 false 1) ∷ Controls (Compare 3 1) ∷ Controls (Below name) ∷ [] in
      let last : List (Line I O) = pixel_lines 7 width ++ (store_value width ∷ end) in
      let ends : All M end = All-from_recursion M end (search rules) in
      let lasts : All M last = All-append M (pixel_lines 7 width) (store_value width ∷ end) (pixel_moves_end width) (All-cons M (store_value width) end (store_value_moves width) ends) in
      let middle : List (Line I O) = load_value width ∷ (to ++ last) in
      let middles : All M middle = All-cons M (load_value width) (to ++ last) (load_value_moves width) (All-append M to last two lasts) in
      All-append M from (pixel_lines 5 width ++ middle) one (All-append M (pixel_lines 5 width) middle (pixel_moves width) middles)

  one : (line : Line I O) → M line → All M (line ∷ [])
  one line moves = All-cons M line [] moves (All-nil M)

  copy_moves : (vector all k width : ℕ) → All M (tap_copy vector all k width)
  copy_moves vector all k width =
      let offset = buffer_at vector all k in
      let from : List (Line I O) = Controls (LoadPtr 5 4 k) ∷ [] in
      let to : List (Line I O) = scratch_lines 7 offset in
      let turn : List (Line I O) = copy_turn from to width (copy_label k) in
      let keep : List (Line I O) = Controls (StorePtr 2 k 7) ∷ [] in
      let last : List (Line I O) = to ++ keep in
      All-cons M (Controls (Imm 3 0)) (turn ++ last) (search rules)
      (All-append M turn last (turn_moves from to width (copy_label k) (one (Controls (LoadPtr 5 4 k)) (search rules)) (scratch_moves_end offset)) (All-append M to keep (scratch_moves_end offset) (one (Controls (StorePtr 2 k 7)) (search rules))))

  copies_move : (vector all k : ℕ) (widths : List ℕ) → All M (tap_copies vector all k widths)
  copies_move vector all k [] = All-nil M
  copies_move vector all k (width ∷ widths) = All-append M (tap_copy vector all k width) (tap_copies vector all (k + 1) widths) (copy_moves vector all k width) (copies_move vector all (k + 1) widths)

  narrow_moves : (vector : ℕ) (widths : List ℕ) → All M (narrow_lines vector widths)
  narrow_moves vector widths =
      let all = length widths in
      let offset = buffer_at vector all all in
      let end : List (Line I O) = Controls (StorePtr 2 all 7) ∷ Controls (AddImm 0 2 false 0) ∷ Controls (Imm 3 0) ∷ Controls (Jump (codes "block")) ∷ [] in
      let pointer : List (Line I O) = scratch_lines 7 offset in
      All-append M (tap_copies vector all 0 widths) (pointer ++ end) (copies_move vector all 0 widths) (All-append M pointer end (scratch_moves_end offset) (All-from_recursion M end (search rules)))

  back_moves : (vector width : ℕ) → All M (back_lines vector taps width)
  back_moves vector width =
      let offset = buffer_at vector taps taps in
      let low : taps ≤ taps + 2 = omega arith in
      let from : List (Line I O) = scratch_lines 5 offset in
      let to : List (Line I O) = Controls (LoadPtr 7 4 taps) ∷ [] in
      let turn : List (Line I O) = copy_turn from to width (codes "loop") in
      let end : List (Line I O) = Controls Return ∷ [] in
      All-cons M (Controls (Imm 3 0)) (turn ++ end) (search rules)
      (All-append M turn end (turn_moves from to width (codes "loop") (scratch_moves offset) (one (Controls (LoadPtr 7 4 taps)) (search rules))) (one (Controls Return) (search rules)))

-- the lines behind the first
abbrev pub rest_lines : {I O : Type 0} → Table O → List ℕ → ℕ → List (Item O) → List (Line I O)
rest_lines t widths width block =
    Controls (LoadPtr 1 4 (length widths + 2)) ∷ Controls (LoadPtr 2 4 (length widths + 1)) ∷ Controls (Imm 7 t.vector) ∷ Controls (Compare 1 7) ∷ Controls (Below (codes "narrow")) ∷ Controls (Imm 3 0)
    ∷ (block_lines t widths width block ++ (next_lines t.vector ++ (tail_lines ++ (last_lines t.vector ++ (narrow_lines t.vector widths ++ back_lines t.vector (length widths) width)))))

module _ (I O : Type 0) (t : Table O) (is_op : O → Type 0) (laws : IsTable t is_op) (slots width : ℕ) (widths : List ℕ) (block : List (Item O)) (few : All (λ w. w ≤ 2) widths) (low : width ≤ 2) (within : All (IsWithin t t.vectors slots) block) (steps : All (IsBlockItem widths width) block) where
  abbrev N : Line I O → Type 0
  N line = Moves t (length widths) line

  rest_moves : All N (rest_lines t widths width block)
  rest_moves =
      let back : List (Line I O) = back_lines t.vector (length widths) width in
      let narrow : List (Line I O) = narrow_lines t.vector widths in
      let last : List (Line I O) = last_lines t.vector in
      let tail : List (Line I O) = tail_lines in
      let next : List (Line I O) = next_lines t.vector in
      let items : List (Line I O) = block_lines t widths width block in
      let begin : List (Line I O) = Controls (LoadPtr 1 4 (length widths + 2)) ∷ Controls (LoadPtr 2 4 (length widths + 1)) ∷ Controls (Imm 7 t.vector) ∷ Controls (Compare 1 7) ∷ Controls (Below (codes "narrow")) ∷ Controls (Imm 3 0) ∷ [] in
      let taps = length widths in
      All-append N begin (items ++ (next ++ (tail ++ (last ++ (narrow ++ back))))) (All-from_recursion N begin (search rules))
      (All-append N items (next ++ (tail ++ (last ++ (narrow ++ back)))) (block_moves I O t taps is_op laws slots width widths block refl few low within steps)
      (All-append N next (tail ++ (last ++ (narrow ++ back))) (next_moves I O t taps t.vector)
      (All-append N tail (last ++ (narrow ++ back)) (tail_moves I O t taps)
      (All-append N last (narrow ++ back) (last_moves I O t taps t.vector)
      (All-append N narrow back (narrow_moves I O t taps t.vector widths) (back_moves I O t taps t.vector width))))))

  -- of the rest, and of the first line too
  part_moves : (P : Line I O → Type 0) → ((line : Line I O) → N line → P line) → P (Controls (AddImm 4 0 false 0)) → All P (row_code t widths width block)
  part_moves P from first = All-cons P (Controls (AddImm 4 0 false 0)) (rest_lines t widths width block) first (All-weaker N P from (rest_lines t widths width block) rest_moves)

  copies_late : (vector all k before : ℕ) (ws : List ℕ) → All (λ (l : Label). 1 ≤ l.before) (copy_labels I O vector all k before ws)
  copies_late vector all k before [] = All-nil (λ (l : Label). 1 ≤ l.before)
  copies_late vector all k before (w ∷ ws) =
      let next = before + length (tap_copy {I = I} {O = O} vector all k w) in
      All-cons (λ (l : Label). 1 ≤ l.before) (label (copy_label k) (before + 1)) (copy_labels I O vector all (k + 1) next ws) (omega arith) (copies_late vector all (k + 1) next ws)

  labels_late : All (λ (l : Label). 1 ≤ l.before) (row_labels I t widths width block)
  labels_late =
      let L : Label → Type 0 = λ l. 1 ≤ l.before in
      let copies = copy_labels I O t.vector (length widths) 0 (narrow_at I t widths width block) widths in
      let to_block : Label = label (codes "block") 7 in
      let to_tail : Label = label (codes "tail") (next_at I t widths width block + 8) in
      let to_last : Label = label (codes "last") (next_at I t widths width block + 11) in
      let to_narrow : Label = label (codes "narrow") (narrow_at I t widths width block) in
      let to_back : Label = label (codes "back") (back_at I t widths width block) in
      let to_loop : Label = label (codes "loop") (back_at I t widths width block + 1) in
      All-append L (to_block ∷ to_tail ∷ to_last ∷ to_narrow ∷ []) (copies ++ to_back ∷ to_loop ∷ [])
      (All-cons L to_block (to_tail ∷ to_last ∷ to_narrow ∷ []) (omega arith) (All-cons L to_tail (to_last ∷ to_narrow ∷ []) (omega arith) (All-cons L to_last (to_narrow ∷ []) (omega arith) (All-cons L to_narrow [] (omega arith) (All-nil L)))))
      (All-append L copies (to_back ∷ to_loop ∷ []) (copies_late t.vector (length widths) 0 (narrow_at I t widths width block) widths) (All-cons L to_back (to_loop ∷ []) (omega arith) (All-cons L to_loop [] (omega arith) (All-nil L))))

  pub row_moved : Moved t (length widths) (row_code {I = I} t widths width block) (row_labels I t widths width block)
  row_moved = record {
    rest = rest_lines t widths width block;
    kept = refl;
    kept_for_good = All-weaker N (WritesOnly 4 (λ _. ⊥)) (λ line m. m.0) (rest_lines t widths width block) rest_moves;
    no_label = labels_late;
    count = part_moves (WritesOnly 1 (λ c. c ≡ LoadPtr 1 4 (length widths + 2))) (λ line m. m.1) (search rules);
    scratch = part_moves (WritesOnly 2 (λ c. c ≡ LoadPtr 2 4 (length widths + 1))) (λ line m. m.2) (search rules);
    pixel = part_moves (WritesOnly 3 MovesPixel) (λ line m. m.3) (search rules);
    pointers = part_moves (WritesOnly 0 MovesTable) (λ line m. m.4) (search rules);
    end = part_moves (WritesOnly 7 (MovesEnd (length widths))) (λ line m. m.5) (search rules);
    pointer = part_moves (WritesOnly 5 MovesPointer) (λ line m. m.6) (search rules);
    value = part_moves (WritesOnly 6 MovesValue) (λ line m. m.7) (search rules);
    value_stored = part_moves (OfControl StoresValue) (λ line m. m.8) (search rules);
    compared = part_moves (OfControl Compares) (λ line m. m.9) (search rules);
    pointer_stored = part_moves (OfControl StoresPointer) (λ line m. m.10) (search rules);
    accesses = part_moves (AccessesPointer t) (λ line m. m.11) (search rules);
  }
