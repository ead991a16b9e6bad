-- The parts of a row's code, and where its labels lead.
use Rattle.std.proofs.Common.{◌≡◌, ℕ, ◌+◌, ◌/◌, ◌%◌, ◌<◌, ◌≤◌, List, [], ◌∷◌, ◌++◌, length, true, false, refl, arith, rules, ap, subst, ◌∙◌, append_assoc}
use Rattle.std.specs.Prelude.{codes}
use Rattle.std.specs.Str.{bytes_eq}
use Rattle.std.proofs.lemmas.Bool.{false_from_ne_true}
use Rattle.std.proofs.lemmas.Slice.Eq.{bytes_eq-Decides}
use Rattle.pf_machine.specs.declared.code.Line.{Line}
use Rattle.pf_machine.specs.declared.code.Label.{Label}
use Rattle.pf_machine.specs.declared.block.Item.{Item}
use Rattle.pf_machine.specs.Meaning.Tables.{Table}
use Rattle.pf_machine.specs.Meaning.MachineSteps.{place_of}
use Rattle.pf_machine.proofs.StepLaws.{place_of-found, place_of-later}
use Rattle.pf_rows.specs.Steps.RowCode.{begin_lines, block_lines, next_lines, tail_lines, last_lines, narrow_lines, back_lines, row_code, row_labels, copy_labels, copy_label, tap_copy, label, next_at, narrow_at, back_at}
use Rattle.pf_rows.proofs.Paths.{Stands, stands-front, stands-back, stands-whole}
use Rattle.pf_rows.proofs.Ways.{Laid, Copies}

pub bytes_eq-same : (name : List ℕ) → bytes_eq name name ≡ true
bytes_eq-same name = search (rules, bytes_eq-Decides)

-- two copies have different labels
pub copy_label-other : (k j : ℕ) → k < j → j < 100 → bytes_eq (copy_label k) (copy_label j) ≡ false
copy_label-other k j less small = false_from_ne_true (bytes_eq (copy_label k) (copy_label j)) (λ same.
    let equal : copy_label k ≡ copy_label j = search (rules, bytes_eq-Decides) in
    let tens : 48 + k / 10 ≡ 48 + j / 10 = cc in
    let ones : 48 + k % 10 ≡ 48 + j % 10 = cc in
    absurd (omega arith))

-- a name that is no copy's label
pub place_of-past : (I O : Type 0) (vector taps k before end : ℕ) (widths : List ℕ) (rest : List Label) (name : List ℕ)
    → ((j : ℕ) → bytes_eq (copy_label j) name ≡ false) → place_of (copy_labels I O vector taps k before widths ++ rest) end name ≡ place_of rest end name
place_of-past I O vector taps k before end [] rest name other = refl
place_of-past I O vector taps k before end (w ∷ widths) rest name other =
    let next = before + length (tap_copy {I = I} {O = O} vector taps k w) in
    place_of-later (label (copy_label k) (before + 1)) (copy_labels I O vector taps (k + 1) next widths ++ rest) end name (other k)
    ∙ place_of-past I O vector taps (k + 1) next end widths rest name other

-- the copies' labels lead to the copies
pub copies_found : (I O : Type 0) (front : List Label) (vector taps k before end : ℕ) (widths : List ℕ) (rest : List Label)
    → ((j : ℕ) → k ≤ j → j < 100 → (more : List Label) → place_of (front ++ more) end (copy_label j) ≡ place_of more end (copy_label j))
    → k + length widths ≤ 100 → Copies I O (front ++ (copy_labels I O vector taps k before widths ++ rest)) end vector taps k before widths
copies_found I O front vector taps k before end [] rest skips few = tt
copies_found I O front vector taps k before end (w ∷ widths) rest skips few =
    let here : Label = label (copy_label k) (before + 1) in
    let one : List Label = here ∷ [] in
    let next = before + length (tap_copy {I = I} {O = O} vector taps k w) in
    let later : List Label = copy_labels I O vector taps (k + 1) next widths ++ rest in
    let found : place_of (front ++ here ∷ later) end (copy_label k) ≡ before + 1 = skips k (omega arith) (omega arith) (here ∷ later) ∙ place_of-found here later end (copy_label k) (bytes_eq-same (copy_label k)) in
    let skips' : (j : ℕ) → k + 1 ≤ j → j < 100 → (more : List Label) → place_of ((front ++ one) ++ more) end (copy_label j) ≡ place_of more end (copy_label j) = λ j from small more.
    ap (λ l. place_of l end (copy_label j)) (append_assoc front one more) ∙ skips j (omega arith) small (here ∷ more) ∙ place_of-later here more end (copy_label j) (copy_label-other k j (omega arith) small) in
    let rest_found : Copies I O ((front ++ one) ++ later) end vector taps (k + 1) next widths = copies_found I O (front ++ one) vector taps (k + 1) next end widths rest skips' (omega arith) in
    (found, subst (λ l. Copies I O l end vector taps (k + 1) next widths) (append_assoc front one later) rest_found)

module _ (I O : Type 0) (t : Table O) (widths : List ℕ) (width : ℕ) (block : List (Item O)) (few : length widths ≤ 64) where
  abbrev code : List (Line I O)
  code = row_code t widths width block

  abbrev labels : List Label
  labels = row_labels I t widths width block

  abbrev b : ℕ
  b = next_at I t widths width block

  abbrev after_copies : List Label
  after_copies = label (codes "back") (back_at I t widths width block) ∷ label (codes "loop") (back_at I t widths width block + 1) ∷ []

  abbrev first_labels : List Label
  first_labels = label (codes "block") 7 ∷ label (codes "tail") (b + 8) ∷ label (codes "last") (b + 11) ∷ label (codes "narrow") (narrow_at I t widths width block) ∷ []

  pub laid : Laid t code labels widths width block
  laid =
      let back : List (Line I O) = back_lines t.vector (length widths) width in
      let narrow : List (Line I O) = narrow_lines t.vector widths in
      let last : List (Line I O) = last_lines t.vector in
      let tail : List (Line I O) = tail_lines in
      let next : List (Line I O) = next_lines t.vector in
      let items : List (Line I O) = block_lines t widths width block in
      let begin : List (Line I O) = begin_lines t.vector (length widths) in
      let from_narrow : List (Line I O) = narrow ++ back in
      let from_last : List (Line I O) = last ++ from_narrow in
      let from_tail : List (Line I O) = tail ++ from_last in
      let from_next : List (Line I O) = next ++ from_tail in
      let from_items : List (Line I O) = items ++ from_next in
      let none : List (Line I O) = [] in
      let all : Stands code 0 (begin ++ from_items) = stands-whole code none in
      let at_items : Stands code 7 from_items = stands-back code 0 begin from_items all in
      let at_next : Stands code b from_next = stands-back code 7 items from_next at_items in
      let at_tail : Stands code (b + 8) from_tail = stands-back code b next from_tail at_next in
      let third : b + 8 + 3 ≡ b + 11 = omega arith in
      let at_last : Stands code (b + 11) from_last = subst (λ m. Stands code m from_last) third (stands-back code (b + 8) tail from_last at_tail) in
      let second : b + 11 + 2 ≡ b + 13 = omega arith in
      let at_narrow : Stands code (b + 13) from_narrow = subst (λ m. Stands code m from_narrow) second (stands-back code (b + 11) last from_narrow at_last) in
      let end = length code in
      record {
        begin = stands-front code 0 begin from_items all;
        steps = stands-front code 7 items from_next at_items;
        next = stands-front code b next from_tail at_next;
        tail = stands-front code (b + 8) tail from_last at_tail;
        last = stands-front code (b + 11) last from_narrow at_last;
        narrow = stands-front code (b + 13) narrow back at_narrow;
        back = stands-back code (b + 13) narrow back at_narrow;
        to_block = refl;
        to_tail = refl;
        to_last = refl;
        to_narrow = refl;
        to_copies = copies_found I O first_labels t.vector (length widths) 0 (narrow_at I t widths width block) end widths after_copies (λ j from small more. refl) (omega arith);
        to_back = place_of-past I O t.vector (length widths) 0 (narrow_at I t widths width block) end widths after_copies (codes "back") (λ j. refl);
        to_loop = place_of-past I O t.vector (length widths) 0 (narrow_at I t widths width block) end widths after_copies (codes "loop") (λ j. refl);
      }
