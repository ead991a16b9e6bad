-- The labels of a row's code.
use Rattle.std.proofs.Common.{◌≡◌, ◌≢◌, ℕ, ◌+◌, ◌<◌, ◌≤◌, List, [], ◌∷◌, ◌++◌, length, map, get_or, All, true, false, refl, arith, ap, sym, subst, ◌∙◌, ⊎_elim, length-append}
use Rattle.std.specs.Prelude.{codes, Contains}
use Rattle.std.specs.Str.{bytes_eq}
use Rattle.std.specs.List.{AllPairs}
use Rattle.std.proofs.lemmas.Bool.{agree_below, agree_below_at, cases_eq, false≢true}
use Rattle.std.proofs.lemmas.List.{map-append}
use Rattle.std.proofs.lemmas.List.Kept.{AllPairs-cons}
use Rattle.std.proofs.lemmas.List.Elements.{All-nil, All-cons, All-append, All-weaker, Contains-get_or, Contains-append_right, Contains-append_left}
use Rattle.pf_text.specs.Meaning.Words.{is_name, is_reserved}
use Rattle.pf_machine.specs.declared.control.Control.TheVariants.{StorePtr, AddImm, Imm, Jump}
use Rattle.pf_machine.specs.declared.code.Line.{Line}
use Rattle.pf_machine.specs.declared.code.Line.TheVariants.{Control as Controls}
use Rattle.pf_machine.specs.declared.code.Label.{Label}
use Rattle.pf_machine.specs.declared.block.Item.{Item}
use Rattle.pf_machine.specs.Meaning.Tables.{Table}
use Rattle.pf_machine.specs.Meaning.Programs.{IsLabel}
use Rattle.pf_rows.proofs.Parts.{bytes_eq-same, copy_label-other}
use Rattle.pf_rows.specs.Meaning.Scratch.{buffer_at}
use Rattle.pf_rows.specs.Steps.RowCode.{block_lines, next_lines, tail_lines, last_lines, narrow_lines, back_lines, row_code, row_labels, copy_labels, copy_label, tap_copy, tap_copies, label, next_at, narrow_at, back_at, scratch_lines}

pub block_named : is_name (codes "block") ≡ true
unfolding is_name is_reserved
block_named = refl

pub tail_named : is_name (codes "tail") ≡ true
unfolding is_name is_reserved
tail_named = refl

pub last_named : is_name (codes "last") ≡ true
unfolding is_name is_reserved
last_named = refl

pub narrow_named : is_name (codes "narrow") ≡ true
unfolding is_name is_reserved
narrow_named = refl

pub back_named : is_name (codes "back") ≡ true
unfolding is_name is_reserved
back_named = refl

pub loop_named : is_name (codes "loop") ≡ true
unfolding is_name is_reserved
loop_named = refl

all_named : agree_below (λ k. is_name (copy_label k)) (λ _. true) 64 ≡ true
unfolding is_name is_reserved
all_named = refl

pub copy_named : (k : ℕ) → k < 64 → is_name (copy_label k) ≡ true
copy_named k small = agree_below_at (λ k. is_name (copy_label k)) (λ _. true) 64 k all_named small

module _ (I O : Type 0) (t : Table O) (widths : List ℕ) (width : ℕ) (block : List (Item O)) (few : length widths ≤ 64) where
  abbrev b : ℕ
  b = next_at I t widths width block

  abbrev narrow : ℕ
  narrow = narrow_at I t widths width block

  abbrev back : ℕ
  back = back_at I t widths width block

  abbrev first_labels : List Label
  first_labels = label (codes "block") 7 ∷ label (codes "tail") (b + 8) ∷ label (codes "last") (b + 11) ∷ label (codes "narrow") narrow ∷ []

  abbrev last_labels : List Label
  last_labels = label (codes "back") back ∷ label (codes "loop") (back + 1) ∷ []

  abbrev copies : List Label
  copies = copy_labels I O t.vector (length widths) 0 narrow widths

  abbrev labels : List Label
  labels = row_labels I t widths width block

  abbrev names : List Label → List (List ℕ)
  names ls = map (λ l. l.name) ls

  names_are : names labels ≡ names first_labels ++ (names copies ++ names last_labels)
  names_are = map-append (λ (l : Label). l.name) first_labels (copies ++ last_labels) ∙ ap (λ ns. names first_labels ++ ns) (map-append (λ (l : Label). l.name) copies last_labels)

  there : (name : List ℕ) → Contains (names first_labels ++ (names copies ++ names last_labels)) name → Contains (names labels) name
  there name found = subst (λ ns. Contains ns name) (sym names_are) found

  first_there : (k : ℕ) → k < 4 → Contains (names labels) (get_or (names first_labels) k [])
  first_there k inside = there (get_or (names first_labels) k []) (Contains-append_left (names first_labels) (names copies ++ names last_labels) (get_or (names first_labels) k []) (Contains-get_or (names first_labels) k [] (omega arith)))

  last_there : (k : ℕ) → k < 2 → Contains (names labels) (get_or (names last_labels) k [])
  last_there k inside =
      let name = get_or (names last_labels) k [] in
      there name (Contains-append_right (names first_labels) (names copies ++ names last_labels) name (Contains-append_right (names copies) (names last_labels) name (Contains-get_or (names last_labels) k [] (omega arith))))

  pub block_there : Contains (names labels) (codes "block")
  block_there = first_there 0 (omega arith)

  pub tail_there : Contains (names labels) (codes "tail")
  tail_there = first_there 1 (omega arith)

  pub to_last_there : Contains (names labels) (codes "last")
  to_last_there = first_there 2 (omega arith)

  pub narrow_there : Contains (names labels) (codes "narrow")
  narrow_there = first_there 3 (omega arith)

  pub back_there : Contains (names labels) (codes "back")
  back_there = last_there 0 (omega arith)

  pub loop_there : Contains (names labels) (codes "loop")
  loop_there = last_there 1 (omega arith)

  copies_there : (k before : ℕ) (ws : List ℕ) (j : ℕ) → k ≤ j → j < k + length ws
      → Contains (names (copy_labels I O t.vector (length widths) k before ws)) (copy_label j)
  copies_there k before [] j from to = absurd (omega arith)
  copies_there k before (w ∷ ws) j from to =
      let next = before + length (tap_copy {I = I} {O = O} t.vector (length widths) k w) in
      let rest = names (copy_labels I O t.vector (length widths) (k + 1) next ws) in
      let here : List (List ℕ) = copy_label k ∷ [] in
      ⊎_elim
      (λ (same : j ≡ k). subst (λ i. Contains (copy_label k ∷ rest) (copy_label i)) (sym same) (Contains-get_or (copy_label k ∷ rest) 0 [] (omega arith)))
      (λ (other : j ≡ k → ⊥). Contains-append_right here rest (copy_label j) (copies_there (k + 1) next ws j (omega arith) (omega arith)))
      (cases_eq j k)

  pub copy_there : (k : ℕ) → k < length widths → Contains (names labels) (copy_label k)
  copy_there k inside = there (copy_label k) (Contains-append_right (names first_labels) (names copies ++ names last_labels) (copy_label k) (Contains-append_left (names copies) (names last_labels) (copy_label k) (copies_there 0 narrow widths k (omega arith) (omega arith))))

  -- Where the labels stand

  copies_low : (k before : ℕ) (ws : List ℕ)
      → All (λ (l : Label). (before ≤ l.before) × (l.before ≤ before + length (tap_copies {I = I} {O = O} t.vector (length widths) k ws))) (copy_labels I O t.vector (length widths) k before ws)
  copies_low k before [] = All-nil (λ (l : Label). (before ≤ l.before) × (l.before ≤ before + 0))
  copies_low k before (w ∷ ws) =
      let vector = t.vector in
      let taps = length widths in
      let front : List (Line I O) = tap_copy vector taps k w in
      let rest : List (Line I O) = tap_copies vector taps (k + 1) ws in
      let size = length-append front rest in
      let P : Label → Type 0 = λ l. (before ≤ l.before) × (l.before ≤ before + length (front ++ rest)) in
      All-cons P (label (copy_label k) (before + 1)) (copy_labels I O vector taps (k + 1) (before + length front) ws) (omega arith, omega arith)
      (All-weaker (λ (l : Label). (before + length front ≤ l.before) × (l.before ≤ before + length front + length rest)) P (λ l h. let low = h.0 in let high = h.1 in (omega arith, omega arith)) (copy_labels I O vector taps (k + 1) (before + length front) ws) (copies_low (k + 1) (before + length front) ws))

  -- the code's length
  pub code_length : length (row_code {I = I} t widths width block) ≡ back + length (back_lines {I = I} {O = O} t.vector (length widths) width)
  code_length =
      let over : List (Line I O) = back_lines t.vector (length widths) width in
      let narrows : List (Line I O) = narrow_lines t.vector widths in
      let items : List (Line I O) = block_lines t widths width block in
      let rest : List (Line I O) = next_lines t.vector ++ (tail_lines ++ (last_lines t.vector ++ (narrows ++ over))) in
      let one = length-append items rest in
      let two = length-append narrows over in
      omega arith

  copies_are : (count k before : ℕ) (ws : List ℕ) → k + length ws ≤ 64 → before + length (tap_copies {I = I} {O = O} t.vector (length widths) k ws) ≤ count
      → All (IsLabel count) (copy_labels I O t.vector (length widths) k before ws)
  copies_are count k before [] small fits = All-nil (IsLabel count)
  copies_are count k before (w ∷ ws) small fits =
      let front : List (Line I O) = tap_copy t.vector (length widths) k w in
      let rest : List (Line I O) = tap_copies t.vector (length widths) (k + 1) ws in
      let size = length-append front rest in
      All-cons (IsLabel count) (label (copy_label k) (before + 1)) (copy_labels I O t.vector (length widths) (k + 1) (before + length front) ws) (record { name = copy_named k (omega arith); before = omega arith })
      (copies_are count (k + 1) (before + length front) ws (omega arith) (omega arith))

  narrow_fits : narrow + length (tap_copies {I = I} {O = O} t.vector (length widths) 0 widths) ≤ back
  narrow_fits =
      let front : List (Line I O) = tap_copies t.vector (length widths) 0 widths in
      let size = length-append front (scratch_lines 7 (buffer_at t.vector (length widths) (length widths)) ++ Controls (StorePtr 2 (length widths) 7) ∷ Controls (AddImm 0 2 false 0) ∷ Controls (Imm 3 0) ∷ Controls (Jump (codes "block")) ∷ []) in
      omega arith

  pub labels_are : All (IsLabel (length (row_code {I = I} t widths width block))) labels
  labels_are =
      let count = length (row_code {I = I} t widths width block) in
      let long = code_length in
      let fits = narrow_fits in
      let P : Label → Type 0 = IsLabel count in
      let to_block : Label = label (codes "block") 7 in
      let to_tail : Label = label (codes "tail") (b + 8) in
      let to_last : Label = label (codes "last") (b + 11) in
      let to_narrow : Label = label (codes "narrow") narrow in
      let to_back : Label = label (codes "back") back in
      let to_loop : Label = label (codes "loop") (back + 1) in
      All-append P first_labels (copies ++ last_labels)
      (All-cons P to_block (to_tail ∷ to_last ∷ to_narrow ∷ []) (record { name = block_named; before = omega arith })
      (All-cons P to_tail (to_last ∷ to_narrow ∷ []) (record { name = tail_named; before = omega arith })
      (All-cons P to_last (to_narrow ∷ []) (record { name = last_named; before = omega arith })
      (All-cons P to_narrow [] (record { name = narrow_named; before = omega arith }) (All-nil P)))))
      (All-append P copies last_labels (copies_are count 0 narrow widths (omega arith) (omega arith))
      (All-cons P to_back (to_loop ∷ []) (record { name = back_named; before = omega arith }) (All-cons P to_loop [] (record { name = loop_named; before = omega arith }) (All-nil P))))

-- names that differ
differ : (name other : List ℕ) → bytes_eq name other ≡ false → name ≢ other
differ name other apart same = false≢true (sym apart ∙ ap (λ l. bytes_eq name l) (sym same) ∙ bytes_eq-same name)

-- one label before another
abbrev Before : Label → Label → Type 0
Before l m = (l.name ≢ m.name) × (l.before ≤ m.before)

module _ (I O : Type 0) (vector taps : ℕ) where
  -- a label before the copies from one on
  before_copies : (l : Label) (k before : ℕ) (ws : List ℕ) → ((j : ℕ) → k ≤ j → j < 100 → bytes_eq l.name (copy_label j) ≡ false) → l.before ≤ before
      → k + length ws ≤ 100 → All (Before l) (copy_labels I O vector taps k before ws)
  before_copies l k before [] other low few = All-nil (Before l)
  before_copies l k before (w ∷ ws) other low few =
      let next = before + length (tap_copy {I = I} {O = O} vector taps k w) in
      let here : Label = label (copy_label k) (before + 1) in
      All-cons (Before l) here (copy_labels I O vector taps (k + 1) next ws) (differ l.name (copy_label k) (other k (omega arith) (omega arith)), omega arith)
      (before_copies l (k + 1) next ws (λ j from small. other j (omega arith) small) (omega arith) (omega arith))

  -- the copies' labels, and two behind them
  copies_apart : (k before : ℕ) (ws : List ℕ) (to_back to_loop : Label) → k + length ws ≤ 100
      → before + length (tap_copies {I = I} {O = O} vector taps k ws) ≤ to_back.before → to_back.before ≤ to_loop.before
      → ((j : ℕ) → bytes_eq (copy_label j) to_back.name ≡ false) → ((j : ℕ) → bytes_eq (copy_label j) to_loop.name ≡ false)
      → bytes_eq to_back.name to_loop.name ≡ false
      → AllPairs Before (copy_labels I O vector taps k before ws ++ to_back ∷ to_loop ∷ [])
  copies_apart k before [] to_back to_loop few low order one two three =
      let none : List Label = [] in
      AllPairs-cons Before to_back (to_loop ∷ []) (All-cons (Before to_back) to_loop [] (differ to_back.name to_loop.name three, order) (All-nil (Before to_back)))
      (AllPairs-cons Before to_loop none (All-nil (Before to_loop)) (λ i j d before inside. absurd (omega arith)))
  copies_apart k before (w ∷ ws) to_back to_loop few low order one two three =
      let front : List (Line I O) = tap_copy vector taps k w in
      let rest : List (Line I O) = tap_copies vector taps (k + 1) ws in
      let size = length-append front rest in
      let next = before + length front in
      let here : Label = label (copy_label k) (before + 1) in
      let later = copy_labels I O vector taps (k + 1) next ws in
      let some : 1 ≤ length front = omega arith in
      AllPairs-cons Before here (later ++ to_back ∷ to_loop ∷ [])
      (All-append (Before here) later (to_back ∷ to_loop ∷ [])
      (before_copies here (k + 1) next ws (λ j from small. copy_label-other k j (omega arith) small) (omega arith) (omega arith))
      (All-cons (Before here) to_back (to_loop ∷ []) (differ (copy_label k) to_back.name (one k), omega arith) (All-cons (Before here) to_loop [] (differ (copy_label k) to_loop.name (two k), omega arith) (All-nil (Before here)))))
      (copies_apart (k + 1) next ws to_back to_loop (omega arith) (omega arith) order one two three)

module _ (I O : Type 0) (t : Table O) (widths : List ℕ) (width : ℕ) (block : List (Item O)) (few : length widths ≤ 64) where
  -- one of the first labels before all behind it
  first_before : (l : Label) (more : List Label) → All (Before l) more → ((j : ℕ) → bytes_eq l.name (copy_label j) ≡ false)
      → bytes_eq l.name (codes "back") ≡ false → bytes_eq l.name (codes "loop") ≡ false → l.before ≤ narrow I O t widths width block few
      → All (Before l) (more ++ (copies I O t widths width block few ++ last_labels I O t widths width block few))
  first_before l more before one two three low =
      let fits = narrow_fits I O t widths width block few in
      let to_back : Label = label (codes "back") (back_at I t widths width block) in
      let to_loop : Label = label (codes "loop") (back_at I t widths width block + 1) in
      let at_back : l.before ≤ back_at I t widths width block = omega arith in
      All-append (Before l) more (copies I O t widths width block few ++ last_labels I O t widths width block few) before
      (All-append (Before l) (copies I O t widths width block few) (last_labels I O t widths width block few)
      (before_copies I O t.vector (length widths) l 0 (narrow_at I t widths width block) widths (λ j from small. one j) low (omega arith))
      (All-cons (Before l) to_back (to_loop ∷ []) (differ l.name (codes "back") two, at_back) (All-cons (Before l) to_loop [] (differ l.name (codes "loop") three, omega arith) (All-nil (Before l)))))

  pub labels_distinct : AllPairs (λ (l m : Label). (l.name ≢ m.name) × (l.before ≤ m.before)) (row_labels I t widths width block)
  labels_distinct =
      let b = next_at I t widths width block in
      let fits = narrow_fits I O t widths width block few in
      let to_block : Label = label (codes "block") 7 in
      let to_tail : Label = label (codes "tail") (b + 8) in
      let to_last : Label = label (codes "last") (b + 11) in
      let to_narrow : Label = label (codes "narrow") (narrow_at I t widths width block) in
      let to_back : Label = label (codes "back") (back_at I t widths width block) in
      let to_loop : Label = label (codes "loop") (back_at I t widths width block + 1) in
      let rest = copies I O t widths width block few ++ last_labels I O t widths width block few in
      AllPairs-cons Before to_block (to_tail ∷ to_last ∷ to_narrow ∷ rest)
      (first_before to_block (to_tail ∷ to_last ∷ to_narrow ∷ [])
      (All-cons (Before to_block) to_tail (to_last ∷ to_narrow ∷ []) (differ (codes "block") (codes "tail") refl, omega arith)
      (All-cons (Before to_block) to_last (to_narrow ∷ []) (differ (codes "block") (codes "last") refl, omega arith)
      (All-cons (Before to_block) to_narrow [] (differ (codes "block") (codes "narrow") refl, omega arith) (All-nil (Before to_block)))))
      (λ j. refl) refl refl (omega arith))
      (AllPairs-cons Before to_tail (to_last ∷ to_narrow ∷ rest)
      (first_before to_tail (to_last ∷ to_narrow ∷ [])
      (All-cons (Before to_tail) to_last (to_narrow ∷ []) (differ (codes "tail") (codes "last") refl, omega arith)
      (All-cons (Before to_tail) to_narrow [] (differ (codes "tail") (codes "narrow") refl, omega arith) (All-nil (Before to_tail))))
      (λ j. refl) refl refl (omega arith))
      (AllPairs-cons Before to_last (to_narrow ∷ rest)
      (first_before to_last (to_narrow ∷ []) (All-cons (Before to_last) to_narrow [] (differ (codes "last") (codes "narrow") refl, omega arith) (All-nil (Before to_last))) (λ j. refl) refl refl (omega arith))
      (AllPairs-cons Before to_narrow rest
      (first_before to_narrow [] (All-nil (Before to_narrow)) (λ j. refl) refl refl (omega arith))
      (copies_apart I O t.vector (length widths) 0 (narrow_at I t widths width block) widths to_back to_loop (omega arith) fits (omega arith) (λ j. refl) (λ j. refl) refl))))
