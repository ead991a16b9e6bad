-- What a table prints is read back, and as nothing else.
use Rattle.std.proofs.Common.{◌≡◌, ℕ, suc, ◌+◌, ◌<◌, ◌≤◌, List, [], ◌∷◌, ◌++◌, Bool, true, false, not, ◌&&◌, ◌||◌, nat_le, nat_lt, length, Option, Some, None, MatchOption, refl, arith, ap, sym, ◌∙◌, subst, ⊎_elim}
use Rattle.std.proofs.lemmas.Bool.{and_parts, cases_Bool, cases_eq, leb-true}
use Rattle.pf_text.specs.Meaning.Lines.{tight, IsInstruction}
use Rattle.pf_text.specs.Steps.Scan.{behind, then_behind}
use Rattle.pf_text.proofs.TightLaws.{length-tight}
use Rattle.pf_frames.specs.declared.line.Spelling.{Spelling}
use Rattle.pf_frames.specs.Meaning.Frames.{is_mark, filled, marks, limit, are_operands}
use Rattle.pf_frames.specs.Meaning.LineTables.{LineTable, frame, spelled}
use Rattle.pf_frames.specs.Meaning.FrameTests.{bare, are_apart, is_solid, begins_solid, is_spaced, is_parted, is_plain, ends_well, is_line_frame}
use Rattle.pf_frames.specs.Meaning.Laws.{IsLineTable, IsSpellingOf, is_good_at, is_short_at}
use Rattle.pf_frames.specs.Steps.Reading.{matched, then_made, read_frame, read_at, Reads, IsSpelledAs, IsTightLine}
use Rattle.pf_frames.proofs.OperandLaws.{all_below_at}
use Rattle.pf_frames.proofs.FrameLaws.{Fill, tight_filled, matched_filled, apart_filled, length-filled}
use Rattle.pf_frames.proofs.TableLaws.{apart_at, matched_word, filled_word, bare_front, marks_bare}
use Rattle.pf_frames.proofs.InstructionLaws.{instruction_filled}

-- ---- what the table's tests say of a place
pub record ShortFrame (word pattern : List ℕ) : Type 0 where
  pub solid : is_solid word ≡ true
  pub bytes : length (word ++ pattern) ≤ 40
  pub count : length (marks (word ++ pattern)) ≤ 4

short_frame : (word pattern : List ℕ) → (is_solid word && nat_le (length (word ++ pattern)) 40 && nat_le (length (marks (word ++ pattern))) 4) ≡ true → ShortFrame word pattern
short_frame word pattern h =
    let outer = and_parts (is_solid word && nat_le (length (word ++ pattern)) 40) (nat_le (length (marks (word ++ pattern))) 4) h in
    let inner = and_parts (is_solid word) (nat_le (length (word ++ pattern)) 40) outer.0 in
    record { solid = inner.0; bytes = leb-true (length (word ++ pattern)) 40 inner.1; count = leb-true (length (marks (word ++ pattern))) 4 outer.1 }

record GoodFrame (w : List ℕ) : Type 0 where
  begins : begins_solid w ≡ true
  spaced : is_spaced true w ≡ true
  parted : is_parted (bare false w) ≡ true
  plain : is_plain w ≡ true
  ends : ends_well false (bare false w) ≡ true

good_frame : (word pattern : List ℕ) → is_line_frame word pattern ≡ true → GoodFrame (word ++ pattern)
good_frame word pattern h =
    let w = word ++ pattern in
    let p4 = and_parts (begins_solid w && is_spaced true w && is_parted (bare false w) && is_plain w) (ends_well false (bare false w)) h in
    let p3 = and_parts (begins_solid w && is_spaced true w && is_parted (bare false w)) (is_plain w) p4.0 in
    let p2 = and_parts (begins_solid w && is_spaced true w) (is_parted (bare false w)) p3.0 in
    let p1 = and_parts (begins_solid w) (is_spaced true w) p2.0 in
    record { begins = p1.0; spaced = p1.1; parted = p2.1; plain = p3.1; ends = p4.1 }

unless : (a b : Bool) → (not a || b) ≡ true → a ≡ true → b ≡ true
unless true b h e = h
unless false b h e = absurd (cc)

marks-append : (v w : List ℕ) → length (marks (v ++ w)) ≡ length (marks v) + length (marks w)
marks-append [] w = omega arith
marks-append (c ∷ v) w =
    ⊎_elim
    (λ (mark : is_mark c ≡ true). rw mark (omega (arith, marks-append v w)))
    (λ (byte : is_mark c ≡ false). rw byte (marks-append v w))
    (cases_Bool (is_mark c))

operand_count : (ms ns : List ℕ) → are_operands ms ns ≡ true → length ms ≡ length ns
operand_count [] [] h = refl
operand_count [] (n ∷ ns) h = absurd (cc)
operand_count (m ∷ ms) [] h = absurd (cc)
operand_count (m ∷ ms) (n ∷ ns) h = ap suc (operand_count ms ns (and_parts (nat_lt n (limit m)) (are_operands ms ns) h).1)

then_inside : {X : Type 0} (l : LineTable X) (place : ℕ) (o : Option (List ℕ)) (h : List ℕ → Option (List ℕ)) → then_behind o (λ rest. then_made l place (h rest)) ≡ then_made l place (then_behind o h)
then_inside l place None h = refl
then_inside l place (Some t) h = refl

module _ {X : Type 0} (l : LineTable X) (is_line : X → Type 0) (laws : IsLineTable l is_line) where
  pub short_at : (place : ℕ) → place < l.places → ShortFrame (l.word place) (l.pattern place)
  short_at place inside = short_frame (l.word place) (l.pattern place) (all_below_at (is_short_at l) l.places place laws.short inside)

  pub few_marks : (place : ℕ) → place < l.places → length (marks (l.pattern place)) ≤ 8
  few_marks place inside = let s = short_at place inside in omega (arith, marks-append (l.word place) (l.pattern place), s.count)

  good_at : (place : ℕ) → place < l.places → l.is place ≡ true → GoodFrame (frame l place)
  good_at place inside here = good_frame (l.word place) (l.pattern place) (unless (l.is place) (is_line_frame (l.word place) (l.pattern place)) (all_below_at (is_good_at l) l.places place laws.good inside) here)

  pub frame_read : (place : ℕ) (line : List ℕ) → place < l.places → read_frame l place line ≡ then_made l place (matched (bare false (frame l place)) line [])
  frame_read place line inside =
      then_inside l place (behind (l.word place) line) (λ rest. matched (bare false (l.pattern place)) rest [])
      ∙ ap (then_made l place) (sym (matched_word (l.word place) (l.pattern place) line (short_at place inside).solid))

  -- a tight line is the bare frame of one place with operands
  pub record Printed (s : Spelling) (line : List ℕ) : Type 0 where
    pub fill : Fill (bare false (frame l s.place)) s.numbers
    pub line_is : line ≡ filled (bare false (frame l s.place)) s.numbers

  filling : (x : X) (s : Spelling) → IsSpellingOf l x s → Fill (frame l s.place) s.numbers
  filling x s is = record { fits = is.fits }

  pub printed : (x : X) (s : Spelling) → IsSpellingOf l x s → Printed s (tight (spelled l s))
  unfolding tight
  printed x s is =
      let good = good_at s.place is.inside is.here in
      record {
        fill = record { fits = rw (marks_bare false (frame l s.place)) is.fits };
        line_is = tight_filled true (frame l s.place) s.numbers good.spaced (filling x s is) ∙ ap (λ w. filled w s.numbers) (bare_front (frame l s.place) good.begins);
      }

  pub read_here : (x : X) (s : Spelling) (line : List ℕ) → IsSpellingOf l x s → Printed s line → read_at l s.place line ≡ Some x
  read_here x s line is p =
      let good = good_at s.place is.inside is.here in
      let found : matched (bare false (frame l s.place)) line [] ≡ Some s.numbers = rw p.line_is (matched_filled (bare false (frame l s.place)) s.numbers [] good.parted p.fill) in
      let whole : read_frame l s.place line ≡ Some x = frame_read s.place line is.inside ∙ (ap (then_made l s.place) found ∙ is.back) in
      rw is.here whole

  pub read_there : (x : X) (s : Spelling) (line : List ℕ) (place : ℕ) → IsSpellingOf l x s → Printed s line → place < l.places → (place ≡ s.place → ⊥) → read_at l place line ≡ None
  read_there x s line place is p inside differ =
      ⊎_elim
      (λ (other : l.is place ≡ true).
      let good = good_at s.place is.inside is.here in
      let apart : are_apart (bare false (frame l place)) (bare false (frame l s.place)) ≡ true = apart_at l.is (λ c. bare false (frame l c)) l.places place s.place laws.apart inside is.inside other is.here differ in
      let none : matched (bare false (frame l place)) line [] ≡ None = rw p.line_is (apart_filled (bare false (frame l place)) (bare false (frame l s.place)) s.numbers [] apart good.parted p.fill) in
      let whole : read_frame l place line ≡ None = frame_read place line inside ∙ ap (then_made l place) none in
      rw other whole)
      (λ (none : l.is place ≡ false). rw none refl)
      (cases_Bool (l.is place))

  -- what a reader answers on a spelling of a line is the line
  reads_printed : (x : X) (s : Spelling) (line : List ℕ) (r : Option X) → IsSpellingOf l x s → Printed s line → Reads l line r → r ≡ Some x
  reads_printed x s line None is p reads =
      let none : read_at l s.place line ≡ None = reads s.place is.inside in
      sym none ∙ read_here x s line is p
  reads_printed x s line (Some y) is p reads =
      ⊎_elim
      (λ (same : reads.0 ≡ s.place).
      let here : read_at l s.place line ≡ Some y = rw same at reads.2 in
      sym here ∙ read_here x s line is p)
      (λ (differ : reads.0 ≡ s.place → ⊥).
      let none : read_at l reads.0 line ≡ None = read_there x s line reads.0 is p reads.1 differ in
      absurd (let some = reads.2 in cc))
      (cases_eq reads.0 s.place)

  pub spelling_of : (x : X) (s : Spelling) → is_line x → IsSpelledAs l x s → IsSpellingOf l x s
  spelling_of x s is spelled_as =
      ⊎_elim
      (λ (same : s ≡ l.printed x). subst (λ (s : Spelling). IsSpellingOf l x s) (sym same) (laws.printed x is))
      (λ (other : l.also x ≡ Some s). subst (λ (o : Option Spelling). MatchOption o (Unit {0}) (λ s. IsSpellingOf l x s)) other (laws.also x is))
      spelled_as

  pub reads_line : (x : X) (line : List ℕ) (r : Option X) → is_line x → IsTightLine l x line → Reads l line r → r ≡ Some x
  reads_line x line r is t reads =
      let spelling = spelling_of x t.0 is t.1 in
      reads_printed x t.0 line r spelling (subst (λ (line : List ℕ). Printed t.0 line) (sym t.2) (printed x t.0 spelling)) reads

  -- two lines with one spelling are one
  pub same_line : (x y : X) (s u : Spelling) → IsSpellingOf l x s → IsSpellingOf l y u → tight (spelled l s) ≡ tight (spelled l u) → x ≡ y
  same_line x y s u is other e =
      let first = printed x s is in
      let second : Printed u (tight (spelled l s)) = subst (λ (line : List ℕ). Printed u line) (sym e) (printed y u other) in
      let here : read_at l u.place (tight (spelled l s)) ≡ Some y = read_here y u (tight (spelled l s)) other second in
      ⊎_elim
      (λ (same : u.place ≡ s.place).
      let there : read_at l s.place (tight (spelled l s)) ≡ Some x = read_here x s (tight (spelled l s)) is first in
      let both : read_at l s.place (tight (spelled l s)) ≡ Some y = rw same at here in
      cc)
      (λ (differ : u.place ≡ s.place → ⊥).
      let none : read_at l u.place (tight (spelled l s)) ≡ None = read_there x s (tight (spelled l s)) u.place is first other.inside differ in
      absurd (cc))
      (cases_eq u.place s.place)

  -- no spelling is long, and each is a line of an instruction
  pub short_line : (x : X) (s : Spelling) → IsSpellingOf l x s → length (spelled l s) ≤ 80
  short_line x s is =
      let short = short_at s.place is.inside in
      let count : length (marks (frame l s.place)) ≡ length s.numbers = operand_count (marks (frame l s.place)) s.numbers is.fits in
      let fits = length-filled (frame l s.place) s.numbers (filling x s is) in
      omega (arith, short.bytes, short.count)

  pub no_long_line : (x : X) (line : List ℕ) → is_line x → IsTightLine l x line → 80 < length line → ⊥
  no_long_line x line is t long =
      let short = short_line x t.0 (spelling_of x t.0 is t.1) in
      let tighter = length-tight (spelled l t.0) in
      let same : length line ≡ length (tight (spelled l t.0)) = ap length t.2 in
      absurd (omega arith)

  pub instruction_line : (x : X) (s : Spelling) → IsSpellingOf l x s → IsInstruction (spelled l s)
  instruction_line x s is =
      let good = good_at s.place is.inside is.here in
      instruction_filled (frame l s.place) s.numbers good.spaced good.plain (rw (bare_front (frame l s.place) good.begins) good.ends) (filling x s is)

  -- what is printed of a spelling: its word, and the pattern with operands
  pub spelled_parts : (s : Spelling) → s.place < l.places → spelled l s ≡ l.word s.place ++ filled (l.pattern s.place) s.numbers
  spelled_parts s inside = filled_word (l.word s.place) (l.pattern s.place) s.numbers (short_at s.place inside).solid
