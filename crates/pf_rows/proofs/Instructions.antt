-- The code of a row is a program's.
use Rattle.std.proofs.Common.{◌≡◌, ℕ, zero, suc, ◌+◌, ◌*◌, ◌/◌, ◌%◌, ◌<◌, ◌≤◌, List, [], ◌∷◌, ◌++◌, length, map, get_or, All, true, false, Option, Some, None, refl, arith, sym, subst}
use Rattle.std.specs.Prelude.{codes, replicate, Contains}
use Rattle.std.specs.List.{last_or}
use Rattle.std.proofs.lemmas.Bool.{le-leb, or_left, or_right, and_from, eq-eqb}
use Rattle.std.proofs.lemmas.List.Elements.{All-nil, All-cons, All-head, All-tail, All-append, All-replicate, All-get_or}
use Rattle.pf_text.specs.Meaning.Words.{is_name}
use Rattle.pf_machine.specs.declared.control.Control.TheVariants.{LoadPtr, StorePtr, Imm, AddImm, AddReg, Compare, Below, Jump, Return}
use Rattle.pf_machine.specs.declared.code.Line.{Line}
use Rattle.pf_machine.specs.declared.code.Line.TheVariants.{Vector, Control as Controls}
use Rattle.pf_machine.specs.declared.code.Label.{Label}
use Rattle.pf_machine.specs.declared.block.Item.{Item}
use Rattle.pf_machine.specs.declared.block.Item.TheVariants.{Vector as Operation, TapLoad, OutStore, SlotLoad, SlotStore}
use Rattle.pf_machine.specs.Meaning.Control.{is_offset}
use Rattle.pf_machine.specs.Meaning.Tables.{Table, IsOver}
use Rattle.pf_machine.specs.Meaning.Blocks.{IsWithin}
use Rattle.pf_machine.specs.Meaning.Programs.{IsInstructionOf, IsLast}
use Rattle.pf_rows.specs.Meaning.Scratch.{slot_at, buffer_at}
use Rattle.pf_rows.specs.Meaning.BlockRows.{IsBlockItem}
use Rattle.pf_rows.specs.Steps.RowCode.{begin_lines, pixel_lines, last_pages, scratch_lines, item_lines, block_lines, next_lines, tail_lines, last_lines, load_value, store_value, copy_turn, copy_label, tap_copy, tap_copies, narrow_lines, back_lines, row_code, row_labels}
use Rattle.pf_rows.proofs.LabelLaws.{block_named, tail_named, last_named, narrow_named, back_named, loop_named, copy_named, block_there, tail_there, to_last_there, narrow_there, back_there, loop_there, copy_there}

-- numbers that may be added
offset_low : (by : ℕ) → by ≤ 4095 → is_offset false by ≡ true
offset_low by low = or_left _ _ (le-leb by 4095 low)

offset_pages : (pages : ℕ) → pages ≤ 4095 → is_offset false (4096 * pages) ≡ true
offset_pages pages low =
    let product : 4096 * pages ≤ 16773120 = omega arith in
    let whole : 4096 * pages % 4096 ≡ 0 = omega arith in
    or_right _ _ (and_from _ _ (eq-eqb (4096 * pages % 4096) 0 whole) (le-leb (4096 * pages) 16773120 product))

-- the last of joined lists
last_or-append : {A : Type 0} (xs : List A) (x : A) (first : Option A) → last_or first (xs ++ x ∷ []) ≡ Some x
last_or-append [] x first = refl
last_or-append (y ∷ xs) x first = last_or-append xs x (Some y)

last_or-behind : {A : Type 0} (xs ys : List A) (x : A) (first : Option A) → ((other : Option A) → last_or other ys ≡ Some x) → last_or first (xs ++ ys) ≡ Some x
last_or-behind [] ys x first ends = ends first
last_or-behind (y ∷ xs) ys x first ends = last_or-behind xs ys x (Some y) ends

module _ (I O : Type 0) (t : Table O) (labels : List Label) where
  abbrev P : Line I O → Type 0
  P line = IsInstructionOf t labels line

  one : (line : Line I O) → P line → All P (line ∷ [])
  one line is = All-cons P line [] is (All-nil P)

  add_is : (to from by : ℕ) → to < 8 → from < 8 → is_offset false by ≡ true → P (Controls (AddImm to from false by))
  add_is to from by one two three = ((one, two, three), tt)

  sum_is : (to left right : ℕ) → to < 8 → left < 8 → right < 8 → P (Controls (AddReg to left right))
  sum_is to left right one two three = ((one, two, three), tt)

  pointer_is : (to base entry : ℕ) → to < 8 → base < 8 → entry < 256 → P (Controls (LoadPtr to base entry))
  pointer_is to base entry one two three = ((one, two, three), tt)

  keep_is : (base entry from : ℕ) → base < 8 → entry < 256 → from < 8 → P (Controls (StorePtr base entry from))
  keep_is base entry from one two three = ((one, two, three), tt)

  imm_is : (to n : ℕ) → to < 8 → n < 65536 → P (Controls (Imm to n))
  imm_is to n one two = ((one, two), tt)

  compare_is : (left right : ℕ) → left < 8 → right < 8 → P (Controls (Compare left right))
  compare_is left right one two = ((one, two), tt)

  below_is : (name : List ℕ) → is_name name ≡ true → Contains (map (λ l. l.name) labels) name → P (Controls (Below name))
  below_is name named there = (named, there)

  jump_is : (name : List ℕ) → is_name name ≡ true → Contains (map (λ l. l.name) labels) name → P (Controls (Jump name))
  jump_is name named there = (named, there)

  pixels_are : (r width : ℕ) → r < 8 → All P (pixel_lines r width)
  pixels_are r zero low = All-nil P
  pixels_are r (suc width) low = All-cons P (Controls (AddReg r r 3)) (pixel_lines r width) (sum_is r r 3 low low (omega arith)) (pixels_are r width low)

  last_pages_are : (r pages : ℕ) → r < 8 → pages ≤ 4095 → All P (last_pages r pages)
  last_pages_are r zero low few = All-nil P
  last_pages_are r (suc pages) low few = one (Controls (AddImm r r false (4096 * suc pages))) (add_is r r (4096 * suc pages) low low (offset_pages (suc pages) few))

  scratch_is : (r offset : ℕ) → r < 8 → All P (scratch_lines r offset)
  scratch_is r offset low =
      let pages = offset / 4096 in
      let step : Line I O = Controls (AddImm r r false 16773120) in
      let last : List (Line I O) = last_pages r (pages % 4095) in
      let front : List (Line I O) = replicate (pages / 4095) step in
      All-cons P (Controls (AddImm r 2 false (offset % 4096))) (front ++ last) (add_is r 2 (offset % 4096) low (omega arith) (offset_low (offset % 4096) (omega arith)))
      (All-append P front last (All-replicate P (pages / 4095) step (add_is r r 16773120 low low refl)) (last_pages_are r (pages % 4095) low (omega arith)))

  load_value_is : (width : ℕ) → P (load_value width)
  load_value_is zero = ((omega arith, omega arith), tt)
  load_value_is (suc zero) = ((omega arith, omega arith), tt)
  load_value_is (suc (suc width)) = ((omega arith, omega arith), tt)

  store_value_is : (width : ℕ) → P (store_value width)
  store_value_is zero = ((omega arith, omega arith), tt)
  store_value_is (suc zero) = ((omega arith, omega arith), tt)
  store_value_is (suc (suc width)) = ((omega arith, omega arith), tt)

  turn_is : (from to : List (Line I O)) (width : ℕ) (name : List ℕ) → All P from → All P to → is_name name ≡ true → Contains (map (λ l. l.name) labels) name
      → All P (copy_turn from to width name)
  turn_is from to width name first second named there =
      let end : List (Line I O) = Controls (AddImm 3 3 false 1) ∷ Controls (Compare 3 1) ∷ Controls (Below name) ∷ [] in
      let last : List (Line I O) = pixel_lines 7 width ++ (store_value width ∷ end) in
      let ends : All P end = All-cons P (Controls (AddImm 3 3 false 1)) (Controls (Compare 3 1) ∷ Controls (Below name) ∷ []) (add_is 3 3 1 (omega arith) (omega arith) refl)
      (All-cons P (Controls (Compare 3 1)) (Controls (Below name) ∷ []) (compare_is 3 1 (omega arith) (omega arith)) (one (Controls (Below name)) (below_is name named there))) in
      let lasts : All P last = All-append P (pixel_lines 7 width) (store_value width ∷ end) (pixels_are 7 width (omega arith)) (All-cons P (store_value width) end (store_value_is width) ends) in
      let middle : List (Line I O) = load_value width ∷ (to ++ last) in
      let middles : All P middle = All-cons P (load_value width) (to ++ last) (load_value_is width) (All-append P to last second lasts) in
      All-append P from (pixel_lines 5 width ++ middle) first (All-append P (pixel_lines 5 width) middle (pixels_are 5 width (omega arith)) middles)

module _ (I O : Type 0) (t : Table O) (widths : List ℕ) (width : ℕ) (block : List (Item O)) (few : length widths ≤ 64) (most : t.vector ≤ 128) (some : 1 ≤ t.vector) (slots : ℕ)
    (loads : (to part : ℕ) → to < t.vectors → part ≤ 1 → IsOver t (t.load to part)) (keeps : (from part : ℕ) → from < t.vectors → part ≤ 1 → IsOver t (t.store from part))
    (small : All (λ w. w ≤ 2) widths) (small_out : width ≤ 2) (within : All (IsWithin t t.vectors slots) block) (steps : All (IsBlockItem widths width) block) where
  abbrev labels : List Label
  labels = row_labels I t widths width block

  abbrev taps : ℕ
  taps = length widths

  abbrev Q : Line I O → Type 0
  Q line = IsInstructionOf t labels line

  abbrev single : (line : Line I O) → Q line → All Q (line ∷ [])
  single line is = All-cons Q line [] is (All-nil Q)

  item_is : (item : Item O) → IsWithin t t.vectors slots item → IsBlockItem widths width item → All Q (item_lines t widths width item)
  item_is (Operation op) within step = single (Vector op) (record { uses = within.1; defs = within.2 })
  item_is (TapLoad to tap part) within step =
      let by = get_or widths tap 0 in
      let low : by ≤ 2 = All-get_or (λ w. w ≤ 2) widths tap 0 step.0 small in
      let inside = step.1 in
      let known = step.0 in
      let last : List (Line I O) = Vector (t.load to part) ∷ [] in
      All-cons Q (Controls (LoadPtr 5 0 tap)) (pixel_lines 5 by ++ last) (pointer_is I O t labels 5 0 tap (omega arith) (omega arith) (omega arith)) (All-append Q (pixel_lines 5 by) last (pixels_are I O t labels 5 by (omega arith)) (single (Vector (t.load to part)) (loads to part within (omega arith))))
  item_is (OutStore from part) within step =
      let last : List (Line I O) = Vector (t.store from part) ∷ [] in
      All-cons Q (Controls (LoadPtr 5 0 taps)) (pixel_lines 5 width ++ last) (pointer_is I O t labels 5 0 taps (omega arith) (omega arith) (omega arith)) (All-append Q (pixel_lines 5 width) last (pixels_are I O t labels 5 width (omega arith)) (single (Vector (t.store from part)) (keeps from part within (omega arith))))
  item_is (SlotLoad to slot) within step =
      let offset = slot_at t.vector taps slot in
      All-append Q (scratch_lines 5 offset) (Vector (t.load to 0) ∷ []) (scratch_is I O t labels 5 offset (omega arith)) (single (Vector (t.load to 0)) (loads to 0 within.0 (omega arith)))
  item_is (SlotStore from slot) within step =
      let offset = slot_at t.vector taps slot in
      All-append Q (scratch_lines 5 offset) (Vector (t.store from 0) ∷ []) (scratch_is I O t labels 5 offset (omega arith)) (single (Vector (t.store from 0)) (keeps from 0 within.0 (omega arith)))

  block_is : (items : List (Item O)) → All (IsWithin t t.vectors slots) items → All (IsBlockItem widths width) items → All Q (block_lines t widths width items)
  block_is [] within steps = All-nil Q
  block_is (item ∷ items) within steps =
      All-append Q (item_lines t widths width item) (block_lines t widths width items) (item_is item (All-head (IsWithin t t.vectors slots) item items within) (All-head (IsBlockItem widths width) item items steps))
      (block_is items (All-tail (IsWithin t t.vectors slots) item items within) (All-tail (IsBlockItem widths width) item items steps))

  copy_is : (k w : ℕ) → k < taps → All Q (tap_copy t.vector taps k w)
  copy_is k w known =
      let offset = buffer_at t.vector taps k in
      let from : List (Line I O) = Controls (LoadPtr 5 4 k) ∷ [] in
      let to : List (Line I O) = scratch_lines 7 offset in
      let turn : List (Line I O) = copy_turn from to w (copy_label k) in
      let keep : List (Line I O) = Controls (StorePtr 2 k 7) ∷ [] in
      All-cons Q (Controls (Imm 3 0)) (turn ++ (to ++ keep)) (imm_is I O t labels 3 0 (omega arith) (omega arith))
      (All-append Q turn (to ++ keep)
      (turn_is I O t labels from to w (copy_label k) (single (Controls (LoadPtr 5 4 k)) (pointer_is I O t labels 5 4 k (omega arith) (omega arith) (omega arith))) (scratch_is I O t labels 7 offset (omega arith)) (copy_named k (omega arith)) (copy_there I O t widths width block few k known))
      (All-append Q to keep (scratch_is I O t labels 7 offset (omega arith)) (single (Controls (StorePtr 2 k 7)) (keep_is I O t labels 2 k 7 (omega arith) (omega arith) (omega arith)))))

  copies_are : (k : ℕ) (ws : List ℕ) → k + length ws ≤ taps → All Q (tap_copies t.vector taps k ws)
  copies_are k [] inside = All-nil Q
  copies_are k (w ∷ ws) inside = All-append Q (tap_copy t.vector taps k w) (tap_copies t.vector taps (k + 1) ws) (copy_is k w (omega arith)) (copies_are (k + 1) ws (omega arith))

  jump_block : Q (Controls (Jump (codes "block")))
  jump_block = jump_is I O t labels (codes "block") block_named (block_there I O t widths width block few)

  narrow_is : All Q (narrow_lines t.vector widths)
  narrow_is =
      let offset = buffer_at t.vector taps taps in
      let end : List (Line I O) = Controls (StorePtr 2 taps 7) ∷ Controls (AddImm 0 2 false 0) ∷ Controls (Imm 3 0) ∷ Controls (Jump (codes "block")) ∷ [] in
      let pointer : List (Line I O) = scratch_lines 7 offset in
      All-append Q (tap_copies t.vector taps 0 widths) (pointer ++ end) (copies_are 0 widths (omega arith))
      (All-append Q pointer end (scratch_is I O t labels 7 offset (omega arith))
      (All-cons Q (Controls (StorePtr 2 taps 7)) (Controls (AddImm 0 2 false 0) ∷ Controls (Imm 3 0) ∷ Controls (Jump (codes "block")) ∷ []) (keep_is I O t labels 2 taps 7 (omega arith) (omega arith) (omega arith))
      (All-cons Q (Controls (AddImm 0 2 false 0)) (Controls (Imm 3 0) ∷ Controls (Jump (codes "block")) ∷ []) (add_is I O t labels 0 2 0 (omega arith) (omega arith) refl)
      (All-cons Q (Controls (Imm 3 0)) (Controls (Jump (codes "block")) ∷ []) (imm_is I O t labels 3 0 (omega arith) (omega arith)) (single (Controls (Jump (codes "block"))) jump_block)))))

  back_is : All Q (back_lines t.vector taps width)
  back_is =
      let offset = buffer_at t.vector taps taps in
      let from : List (Line I O) = scratch_lines 5 offset in
      let to : List (Line I O) = Controls (LoadPtr 7 4 taps) ∷ [] in
      let turn : List (Line I O) = copy_turn from to width (codes "loop") in
      let end : List (Line I O) = Controls Return ∷ [] in
      All-cons Q (Controls (Imm 3 0)) (turn ++ end) (imm_is I O t labels 3 0 (omega arith) (omega arith))
      (All-append Q turn end (turn_is I O t labels from to width (codes "loop") (scratch_is I O t labels 5 offset (omega arith)) (single (Controls (LoadPtr 7 4 taps)) (pointer_is I O t labels 7 4 taps (omega arith) (omega arith) (omega arith))) loop_named (loop_there I O t widths width block few))
      (single (Controls Return) (tt, tt)))

  begin_is : All Q (begin_lines t.vector taps)
  begin_is =
      All-cons Q (Controls (AddImm 4 0 false 0)) (Controls (LoadPtr 1 4 (taps + 2)) ∷ Controls (LoadPtr 2 4 (taps + 1)) ∷ Controls (Imm 7 t.vector) ∷ Controls (Compare 1 7) ∷ Controls (Below (codes "narrow")) ∷ Controls (Imm 3 0) ∷ []) (add_is I O t labels 4 0 0 (omega arith) (omega arith) refl)
      (All-cons Q (Controls (LoadPtr 1 4 (taps + 2))) (Controls (LoadPtr 2 4 (taps + 1)) ∷ Controls (Imm 7 t.vector) ∷ Controls (Compare 1 7) ∷ Controls (Below (codes "narrow")) ∷ Controls (Imm 3 0) ∷ []) (pointer_is I O t labels 1 4 (taps + 2) (omega arith) (omega arith) (omega arith))
      (All-cons Q (Controls (LoadPtr 2 4 (taps + 1))) (Controls (Imm 7 t.vector) ∷ Controls (Compare 1 7) ∷ Controls (Below (codes "narrow")) ∷ Controls (Imm 3 0) ∷ []) (pointer_is I O t labels 2 4 (taps + 1) (omega arith) (omega arith) (omega arith))
      (All-cons Q (Controls (Imm 7 t.vector)) (Controls (Compare 1 7) ∷ Controls (Below (codes "narrow")) ∷ Controls (Imm 3 0) ∷ []) (imm_is I O t labels 7 t.vector (omega arith) (omega arith))
      (All-cons Q (Controls (Compare 1 7)) (Controls (Below (codes "narrow")) ∷ Controls (Imm 3 0) ∷ []) (compare_is I O t labels 1 7 (omega arith) (omega arith))
      (All-cons Q (Controls (Below (codes "narrow"))) (Controls (Imm 3 0) ∷ []) (below_is I O t labels (codes "narrow") narrow_named (narrow_there I O t widths width block few))
      (single (Controls (Imm 3 0)) (imm_is I O t labels 3 0 (omega arith) (omega arith))))))))

  next_is : All Q (next_lines t.vector)
  next_is =
      let vector = t.vector in
      let low : is_offset false vector ≡ true = offset_low vector (omega arith) in
      All-cons Q (Controls (Imm 7 vector)) (Controls (Compare 1 7) ∷ Controls (Below (codes "back")) ∷ Controls (AddImm 3 3 false vector) ∷ Controls (AddImm 7 3 false vector) ∷ Controls (Compare 1 7) ∷ Controls (Below (codes "tail")) ∷ Controls (Jump (codes "block")) ∷ []) (imm_is I O t labels 7 vector (omega arith) (omega arith))
      (All-cons Q (Controls (Compare 1 7)) (Controls (Below (codes "back")) ∷ Controls (AddImm 3 3 false vector) ∷ Controls (AddImm 7 3 false vector) ∷ Controls (Compare 1 7) ∷ Controls (Below (codes "tail")) ∷ Controls (Jump (codes "block")) ∷ []) (compare_is I O t labels 1 7 (omega arith) (omega arith))
      (All-cons Q (Controls (Below (codes "back"))) (Controls (AddImm 3 3 false vector) ∷ Controls (AddImm 7 3 false vector) ∷ Controls (Compare 1 7) ∷ Controls (Below (codes "tail")) ∷ Controls (Jump (codes "block")) ∷ []) (below_is I O t labels (codes "back") back_named (back_there I O t widths width block few))
      (All-cons Q (Controls (AddImm 3 3 false vector)) (Controls (AddImm 7 3 false vector) ∷ Controls (Compare 1 7) ∷ Controls (Below (codes "tail")) ∷ Controls (Jump (codes "block")) ∷ []) (add_is I O t labels 3 3 vector (omega arith) (omega arith) low)
      (All-cons Q (Controls (AddImm 7 3 false vector)) (Controls (Compare 1 7) ∷ Controls (Below (codes "tail")) ∷ Controls (Jump (codes "block")) ∷ []) (add_is I O t labels 7 3 vector (omega arith) (omega arith) low)
      (All-cons Q (Controls (Compare 1 7)) (Controls (Below (codes "tail")) ∷ Controls (Jump (codes "block")) ∷ []) (compare_is I O t labels 1 7 (omega arith) (omega arith))
      (All-cons Q (Controls (Below (codes "tail"))) (Controls (Jump (codes "block")) ∷ []) (below_is I O t labels (codes "tail") tail_named (tail_there I O t widths width block few)) (single (Controls (Jump (codes "block"))) jump_block)))))))

  tail_is : All Q tail_lines
  tail_is =
      All-cons Q (Controls (Compare 3 1)) (Controls (Below (codes "last")) ∷ Controls Return ∷ []) (compare_is I O t labels 3 1 (omega arith) (omega arith))
      (All-cons Q (Controls (Below (codes "last"))) (Controls Return ∷ []) (below_is I O t labels (codes "last") last_named (to_last_there I O t widths width block few)) (single (Controls Return) (tt, tt)))

  last_is : All Q (last_lines t.vector)
  last_is =
      let down : is_offset true t.vector ≡ true = and_from _ _ (le-leb 1 t.vector some) (le-leb t.vector 4095 (omega arith)) in
      All-cons Q (Controls (AddImm 3 1 true t.vector)) (Controls (Jump (codes "block")) ∷ []) ((omega arith, omega arith, down), tt) (single (Controls (Jump (codes "block"))) jump_block)

  pub code_is : All Q (row_code t widths width block)
  code_is =
      let over : List (Line I O) = back_lines t.vector taps width in
      let narrows : List (Line I O) = narrow_lines t.vector widths in
      let lasts : List (Line I O) = last_lines t.vector in
      let tails : List (Line I O) = tail_lines in
      let nexts : List (Line I O) = next_lines t.vector in
      let items : List (Line I O) = block_lines t widths width block in
      let begins : List (Line I O) = begin_lines t.vector taps in
      All-append Q begins (items ++ (nexts ++ (tails ++ (lasts ++ (narrows ++ over))))) begin_is
      (All-append Q items (nexts ++ (tails ++ (lasts ++ (narrows ++ over)))) (block_is block within steps)
      (All-append Q nexts (tails ++ (lasts ++ (narrows ++ over))) next_is
      (All-append Q tails (lasts ++ (narrows ++ over)) tail_is
      (All-append Q lasts (narrows ++ over) last_is (All-append Q narrows over narrow_is back_is)))))

  pub code_ends : IsLast (last_or None (row_code {I = I} t widths width block))
  code_ends =
      let offset = buffer_at t.vector taps taps in
      let from : List (Line I O) = scratch_lines 5 offset in
      let to : List (Line I O) = Controls (LoadPtr 7 4 taps) ∷ [] in
      let turn : List (Line I O) = copy_turn from to width (codes "loop") in
      let over : List (Line I O) = back_lines t.vector taps width in
      let narrows : List (Line I O) = narrow_lines t.vector widths in
      let lasts : List (Line I O) = last_lines t.vector in
      let tails : List (Line I O) = tail_lines in
      let nexts : List (Line I O) = next_lines t.vector in
      let items : List (Line I O) = block_lines t widths width block in
      let begins : List (Line I O) = begin_lines t.vector taps in
      let return : Line I O = Controls Return in
      let final : (other : Option (Line I O)) → last_or other over ≡ Some return = λ other. last_or-append (Controls (Imm 3 0) ∷ turn) return other in
      let one : (other : Option (Line I O)) → last_or other (narrows ++ over) ≡ Some return = λ other. last_or-behind narrows over return other final in
      let two : (other : Option (Line I O)) → last_or other (lasts ++ (narrows ++ over)) ≡ Some return = λ other. last_or-behind lasts (narrows ++ over) return other one in
      let three : (other : Option (Line I O)) → last_or other (tails ++ (lasts ++ (narrows ++ over))) ≡ Some return = λ other. last_or-behind tails (lasts ++ (narrows ++ over)) return other two in
      let four : (other : Option (Line I O)) → last_or other (nexts ++ (tails ++ (lasts ++ (narrows ++ over)))) ≡ Some return = λ other. last_or-behind nexts (tails ++ (lasts ++ (narrows ++ over))) return other three in
      let five : (other : Option (Line I O)) → last_or other (items ++ (nexts ++ (tails ++ (lasts ++ (narrows ++ over))))) ≡ Some return = λ other. last_or-behind items (nexts ++ (tails ++ (lasts ++ (narrows ++ over)))) return other four in
      let six : last_or None (row_code {I = I} t widths width block) ≡ Some return = last_or-behind begins (items ++ (nexts ++ (tails ++ (lasts ++ (narrows ++ over))))) return None five in
      subst (λ o. IsLast o) (sym six) tt
