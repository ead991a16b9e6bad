-- What every set of instructions owes of its texts, for one that is printed by a table of lines.
use Rattle.std.proofs.Common.{◌≡◌, ℕ, zero, suc, ◌<◌, ◌≤◌, List, [], ◌∷◌, ◌++◌, Bool, true, false, not, ◌&&◌, ◌||◌, length, Option, Some, None, refl, arith, ap, sym, ◌∙◌, subst, inl, inr, ⊎_elim}
use Rattle.std.specs.Prelude.{◌⊎◌, Contains}
use Rattle.std.proofs.lemmas.Bool.{and_parts, cases_Bool}
use Rattle.pf_machine.specs.declared.control.Control.{Control}
use Rattle.pf_machine.specs.declared.control.Control.TheVariants.{LoadPtr, StorePtr, Imm, AddImm, AddReg, LoadByte, LoadHalf, StoreByte, StoreHalf, Compare, Below, Jump, Return}
use Rattle.pf_machine.specs.Meaning.Control.{IsControl}
use Rattle.pf_machine.specs.Meaning.Tables.{Table, IsOver, IsSpelling, MeansOp, MeansControl}
use Rattle.pf_text.specs.Meaning.Words.{is_name}
use Rattle.pf_text.specs.Meaning.Lines.{tight, IsInstruction}
use Rattle.pf_text.proofs.TightLaws.{length-tight}
use Rattle.pf_frames.specs.declared.line.Spelling.{Spelling}
use Rattle.pf_frames.specs.declared.line.TableLine.{TableLine}
use Rattle.pf_frames.specs.declared.line.TableLine.TheVariants.{Vector, Control as Controls}
use Rattle.pf_frames.specs.Meaning.LineTables.{LineTable, Jumps, frame, spelled, text_of, others, around, jump_text, control_text_of}
use Rattle.pf_frames.specs.Meaning.FrameTests.{bare, begins_apart}
use Rattle.pf_frames.specs.Meaning.Laws.{IsLineTable, IsTableLine, IsPrintedBy, is_no_jump_at}
use Rattle.pf_frames.specs.Steps.Reading.{matched, then_made, read_frame, read_at, Reads, IsSpelledAs, IsTightLine, jump_of, Guesses}
use Rattle.pf_frames.proofs.OperandLaws.{all_below_at}
use Rattle.pf_frames.proofs.ReadLaws.{frame_read, printed, read_here, spelling_of, reads_line, same_line, instruction_line, short_line}
use Rattle.pf_frames.proofs.JumpLaws.{AroundFacts, around_facts, IsLabel, label_is, jump_tight, length-jump, jump_instruction, matched_front, forked_apart, same_label}

pub record IsJump (c : Control) : Type 0 where
  pub below : Bool
  pub label : List ℕ
  pub is : c ≡ jump_of below label
  pub name : is_name label ≡ true

contains_other : {X : Type 0} (l : LineTable X) (o : Option Spelling) (s : List ℕ) → Contains (others l o) s → (u : Spelling) × (o ≡ Some u) × (s ≡ spelled l u)
contains_other l None s (k, less, e) = absurd (omega arith)
contains_other l (Some u) s (zero, less, e) = (u, refl, sym e)
contains_other l (Some u) s (suc k, less, e) = absurd (omega arith)

unless : (a b : Bool) → (not a || b) ≡ true → a ≡ true → b ≡ true
unless true b h e = h
unless false b h e = absurd (cc)

module _ {O : Type 0} (t : Table O) (is_op : O → Type 0) (l : LineTable (TableLine O)) (j : Jumps) (laws : IsLineTable l (IsTableLine t is_op)) (texts : IsPrintedBy l j t) where
  pub around_is : (below : Bool) → AroundFacts (around j below)
  around_is true = around_facts j.below texts.below
  around_is false = around_facts j.onward texts.onward

  jump_printed : (below : Bool) (label : List ℕ) → control_text_of l j (jump_of below label) ≡ jump_text (around j below) label
  jump_printed true label = refl
  jump_printed false label = refl

  -- a control instruction is a line of the table, or a jump
  pub record IsFramed (c : Control) : Type 0 where
    pub line : IsTableLine t is_op (Controls c)
    pub text : control_text_of l j c ≡ text_of l (Controls c)

  pub by_kind : (c : Control) → IsControl c → IsFramed c ⊎ IsJump c
  by_kind (LoadPtr to base entry) is = inl (record { line = is; text = refl })
  by_kind (StorePtr base entry from) is = inl (record { line = is; text = refl })
  by_kind (Imm to n) is = inl (record { line = is; text = refl })
  by_kind (AddImm to from down by) is = inl (record { line = is; text = refl })
  by_kind (AddReg to left right) is = inl (record { line = is; text = refl })
  by_kind (LoadByte to at) is = inl (record { line = is; text = refl })
  by_kind (LoadHalf to at) is = inl (record { line = is; text = refl })
  by_kind (StoreByte at from) is = inl (record { line = is; text = refl })
  by_kind (StoreHalf at from) is = inl (record { line = is; text = refl })
  by_kind (Compare left right) is = inl (record { line = is; text = refl })
  by_kind (Below label) is = inr (record { below = true; label = label; is = refl; name = is })
  by_kind (Jump label) is = inr (record { below = false; label = label; is = refl; name = is })
  by_kind Return is = inl (record { line = is; text = refl })

  -- a vector instruction's spelling is one of the table's
  pub spelled_op : (op : O) (s : List ℕ) → IsSpelling t op s → (u : Spelling) × IsSpelledAs l (Vector op) u × (s ≡ spelled l u)
  spelled_op op s is =
      ⊎_elim
      (λ (same : s ≡ t.text op). (l.printed (Vector op), inl refl, same ∙ texts.text op))
      (λ (other : Contains (t.also op) s).
      let here = contains_other l (l.also (Vector op)) s (subst (λ (ss : List (List ℕ)). Contains ss s) (texts.also op) other) in
      (here.0, inr here.1, here.2))
      is

  -- and the other way round
  pub spelling_back : (op : O) (u : Spelling) → IsSpelledAs l (Vector op) u → IsSpelling t op (spelled l u)
  spelling_back op u is =
      ⊎_elim
      (λ (same : u ≡ l.printed (Vector op)). inl (ap (λ u. spelled l u) same ∙ sym (texts.text op)))
      (λ (other : l.also (Vector op) ≡ Some u).
      let also : t.also op ≡ spelled l u ∷ [] = texts.also op ∙ ap (λ o. others l o) other in
      inr (subst (λ (ss : List (List ℕ)). Contains ss (spelled l u)) (sym also) (0, omega arith, refl)))
      is

  pub tight_op : (line : List ℕ) (op : O) → MeansOp t line op → IsTightLine l (Vector op) (tight line)
  tight_op line op means =
      let u = spelled_op op means.0 means.1 in
      (u.0, u.1, means.2 ∙ ap tight u.2)

  pub op_means : (line : List ℕ) (op : O) → IsTightLine l (Vector op) (tight line) → MeansOp t line op
  op_means line op is = (spelled l is.0, spelling_back op is.0 is.1, is.2)

  same_op : (op other : O) → Vector op ≡ Vector other → op ≡ other
  same_op op other e = cc

  pub one_op : (op other : O) (s : List ℕ) → is_op op → is_op other → IsOver t op → IsOver t other → IsSpelling t op s → MeansOp t s other → op ≡ other
  one_op op other s is other_is over other_over spells means =
      let u = spelled_op op s spells in
      let v = tight_op s other means in
      let e : tight (spelled l u.0) ≡ tight (spelled l v.0) = ap tight (sym u.2) ∙ v.2 in
      same_op op other
      (same_line l (IsTableLine t is_op) laws (Vector op) (Vector other) u.0 v.0
      (spelling_of l (IsTableLine t is_op) laws (Vector op) u.0 (is, over) u.1) (spelling_of l (IsTableLine t is_op) laws (Vector other) v.0 (other_is, other_over) v.1) e)

  -- ---- jumps
  begins_other : (place : ℕ) (below : Bool) → place < l.places → l.is place ≡ true → begins_apart (bare false (frame l place)) (around j below).front ≡ true
  begins_other place below inside here = by below where
    both : (begins_apart (bare false (frame l place)) j.below.front ≡ true) × (begins_apart (bare false (frame l place)) j.onward.front ≡ true)
    both =
        and_parts (begins_apart (bare false (frame l place)) j.below.front) (begins_apart (bare false (frame l place)) j.onward.front)
        (unless (l.is place) (begins_apart (bare false (frame l place)) j.below.front && begins_apart (bare false (frame l place)) j.onward.front) (all_below_at (is_no_jump_at l j) l.places place texts.no_jump inside) here)

    by : (below : Bool) → begins_apart (bare false (frame l place)) (around j below).front ≡ true
    by true = both.0
    by false = both.1

  no_jump_at : (place : ℕ) (below : Bool) (line rest : List ℕ) → place < l.places → line ≡ (around j below).front ++ rest → read_at l place line ≡ None
  no_jump_at place below line rest inside e =
      ⊎_elim
      (λ (here : l.is place ≡ true).
      let none : matched (bare false (frame l place)) line [] ≡ None = rw e (matched_front (bare false (frame l place)) (around j below).front rest [] (begins_other place below inside here)) in
      let whole : read_frame l place line ≡ None = frame_read l (IsTableLine t is_op) laws place line inside ∙ ap (then_made l place) none in
      rw here whole)
      (λ (none : l.is place ≡ false). rw none refl)
      (cases_Bool (l.is place))

  pub reads_no_jump : (below : Bool) (line rest : List ℕ) (r : Option (TableLine O)) → line ≡ (around j below).front ++ rest → Reads l line r → r ≡ None
  reads_no_jump below line rest None e reads = refl
  reads_no_jump below line rest (Some x) e reads =
      let none = no_jump_at reads.0 below line rest reads.1 e in
      absurd (let some = reads.2 in cc)

  pub guesses : (line : List ℕ) (r : Option (TableLine O)) → Reads l line r → Guesses l j (IsTableLine t is_op) line r
  guesses line r reads = record {
    of_line = λ x is tight_line. reads_line l (IsTableLine t is_op) laws x line r is tight_line reads;
    of_jump = λ below rest e. reads_no_jump below line rest r e reads;
  }

  -- no table line is a jump's
  line_no_jump : (x : TableLine O) (u : Spelling) (below : Bool) (label : List ℕ) → IsTableLine t is_op x → IsSpelledAs l x u → IsLabel label → tight (spelled l u) ≡ jump_text (around j below) label → ⊥
  line_no_jump x u below label is spells named e =
      let spelling = spelling_of l (IsTableLine t is_op) laws x u is spells in
      let some = read_here l (IsTableLine t is_op) laws x u (tight (spelled l u)) spelling (printed l (IsTableLine t is_op) laws x u spelling) in
      let none = no_jump_at u.place below (tight (spelled l u)) (label ++ (around j below).back) spelling.inside e in
      cc

  tight_jump : (below : Bool) (label : List ℕ) → IsLabel label → tight (control_text_of l j (jump_of below label)) ≡ jump_text (around j below) label
  tight_jump below label named = ap tight (jump_printed below label) ∙ jump_tight (around j below) label (around_is below) named

  other_jump : (below other : Bool) (label last : List ℕ) → jump_text (around j below) label ≡ jump_text (around j other) last → jump_of below label ≡ jump_of other last
  other_jump true true label last e = ap Below (same_label j.below label last e)
  other_jump false false label last e = ap Jump (same_label j.onward label last e)
  other_jump true false label last e = absurd (forked_apart j.below.front j.onward.front (label ++ j.below.back) (last ++ j.onward.back) texts.forked e)
  other_jump false true label last e = absurd (forked_apart j.below.front j.onward.front (last ++ j.below.back) (label ++ j.onward.back) texts.forked (sym e))

  same_control : (c d : Control) (x y : TableLine O) → x ≡ Controls c → y ≡ Controls d → x ≡ y → c ≡ d
  same_control c d x y is other e = cc

  one_text : (c d : Control) → IsControl c → IsControl d → tight (control_text_of l j c) ≡ tight (control_text_of l j d) → c ≡ d
  one_text c d is other e =
      ⊎_elim
      (λ (f : IsFramed c).
      let u = l.printed (Controls c) in
      ⊎_elim
      (λ (g : IsFramed d).
      let v = l.printed (Controls d) in
      let same : tight (spelled l u) ≡ tight (spelled l v) = ap tight (sym f.text) ∙ (e ∙ ap tight g.text) in
      same_control c d (Controls c) (Controls d) refl refl
      (same_line l (IsTableLine t is_op) laws (Controls c) (Controls d) u v
      (spelling_of l (IsTableLine t is_op) laws (Controls c) u f.line (inl refl)) (spelling_of l (IsTableLine t is_op) laws (Controls d) v g.line (inl refl)) same))
      (λ (g : IsJump d).
      let named = label_is g.label g.name in
      let there : tight (spelled l u) ≡ jump_text (around j g.below) g.label = ap tight (sym f.text) ∙ (e ∙ (ap (λ d. tight (control_text_of l j d)) g.is ∙ tight_jump g.below g.label named)) in
      absurd (line_no_jump (Controls c) u g.below g.label f.line (inl refl) named there))
      (by_kind d other))
      (λ (f : IsJump c).
      let named = label_is f.label f.name in
      let here : tight (control_text_of l j c) ≡ jump_text (around j f.below) f.label = ap (λ c. tight (control_text_of l j c)) f.is ∙ tight_jump f.below f.label named in
      ⊎_elim
      (λ (g : IsFramed d).
      let v = l.printed (Controls d) in
      let there : tight (spelled l v) ≡ jump_text (around j f.below) f.label = ap tight (sym g.text) ∙ (sym e ∙ here) in
      absurd (line_no_jump (Controls d) v f.below f.label g.line (inl refl) named there))
      (λ (g : IsJump d).
      let other_named = label_is g.label g.name in
      let there : tight (control_text_of l j d) ≡ jump_text (around j g.below) g.label = ap (λ d. tight (control_text_of l j d)) g.is ∙ tight_jump g.below g.label other_named in
      f.is ∙ (other_jump f.below g.below f.label g.label (sym here ∙ (e ∙ there)) ∙ sym g.is))
      (by_kind d other))
      (by_kind c is)

  pub one_control : (c d : Control) → IsControl c → IsControl d → MeansControl t (t.control_text c) d → c ≡ d
  one_control c d is other means = one_text c d is other (ap tight (sym (texts.control c)) ∙ (means ∙ ap tight (texts.control d)))

  pub apart : (op : O) (c : Control) (s : List ℕ) → is_op op → IsOver t op → IsControl c → IsSpelling t op s → MeansControl t s c → ⊥
  apart op c s is over control spells means =
      let u = spelled_op op s spells in
      let e : tight (spelled l u.0) ≡ tight (control_text_of l j c) = ap tight (sym u.2) ∙ (means ∙ ap tight (texts.control c)) in
      ⊎_elim
      (λ (f : IsFramed c).
      let v = l.printed (Controls c) in
      let same : Vector op ≡ Controls c =
      same_line l (IsTableLine t is_op) laws (Vector op) (Controls c) u.0 v
      (spelling_of l (IsTableLine t is_op) laws (Vector op) u.0 (is, over) u.1) (spelling_of l (IsTableLine t is_op) laws (Controls c) v f.line (inl refl)) (e ∙ ap tight f.text) in
      cc)
      (λ (f : IsJump c).
      let named = label_is f.label f.name in
      line_no_jump (Vector op) u.0 f.below f.label (is, over) u.1 named (e ∙ (ap (λ c. tight (control_text_of l j c)) f.is ∙ tight_jump f.below f.label named)))
      (by_kind c control)

  pub instruction : (op : O) (s : List ℕ) → is_op op → IsOver t op → IsSpelling t op s → IsInstruction s
  instruction op s is over spells =
      let u = spelled_op op s spells in
      rw u.2 (instruction_line l (IsTableLine t is_op) laws (Vector op) u.0 (spelling_of l (IsTableLine t is_op) laws (Vector op) u.0 (is, over) u.1))

  framed_instruction : (c : Control) → IsFramed c → IsInstruction (control_text_of l j c)
  framed_instruction c f =
      rw f.text (instruction_line l (IsTableLine t is_op) laws (Controls c) (l.printed (Controls c)) (spelling_of l (IsTableLine t is_op) laws (Controls c) (l.printed (Controls c)) f.line (inl refl)))

  jump_line : (c : Control) → IsJump c → IsInstruction (control_text_of l j c)
  jump_line c f = rw (f.is, jump_printed f.below f.label) (jump_instruction (around j f.below) f.label (around_is f.below) (label_is f.label f.name))

  pub control_instruction : (c : Control) → IsControl c → IsInstruction (t.control_text c)
  control_instruction c is =
      rw (texts.control c)
      (⊎_elim (λ (f : IsFramed c). framed_instruction c f) (λ (f : IsJump c). jump_line c f) (by_kind c is))

  -- ---- what a reader of control instructions needs
  pub no_long_control : (line : List ℕ) (c : Control) → IsControl c → MeansControl t line c → 80 < length (tight line) → ⊥
  no_long_control line c is means long =
      let same : length (tight line) ≡ length (tight (control_text_of l j c)) = ap length (means ∙ ap tight (texts.control c)) in
      let tighter = length-tight (control_text_of l j c) in
      let short : length (control_text_of l j c) ≤ 80 =
      ⊎_elim
      (λ (f : IsFramed c). rw f.text (short_line l (IsTableLine t is_op) laws (Controls c) (l.printed (Controls c)) (spelling_of l (IsTableLine t is_op) laws (Controls c) (l.printed (Controls c)) f.line (inl refl))))
      (λ (f : IsJump c). rw (f.is, jump_printed f.below f.label) (length-jump (around j f.below) f.label (around_is f.below) (label_is f.label f.name)))
      (by_kind c is) in
      absurd (omega arith)

  -- a control instruction that is a line of the table is read by a frame, a jump by its front
  pub guesses_framed : (c : Control) (line : List ℕ) (r : Option (TableLine O)) → IsFramed c → Guesses l j (IsTableLine t is_op) line r → line ≡ tight (control_text_of l j c) → r ≡ Some (Controls c)
  guesses_framed c line r f g e = g.of_line (Controls c) f.line (l.printed (Controls c), inl refl, e ∙ ap tight f.text)

  pub jump_line_is : (c : Control) (line : List ℕ) (f : IsJump c) → line ≡ tight (control_text_of l j c) → line ≡ jump_text (around j f.below) f.label
  jump_line_is c line f e = e ∙ (ap (λ c. tight (control_text_of l j c)) f.is ∙ tight_jump f.below f.label (label_is f.label f.name))

  pub guesses_jump : (c : Control) (line : List ℕ) (r : Option (TableLine O)) (f : IsJump c) → Guesses l j (IsTableLine t is_op) line r → line ≡ tight (control_text_of l j c) → r ≡ None
  guesses_jump c line r f g e = g.of_jump f.below (f.label ++ (around j f.below).back) (jump_line_is c line f e)
