-- What a reader of control instructions finds is what the line means.
use Rattle.std.proofs.Common.{◌≡◌, ◌≢◌, ℕ, ◌<◌, ◌≤◌, List, [], ◌∷◌, ◌++◌, true, false, ◌==◌, length, Option, Some, None, refl, ap, sym, ◌∙◌, subst, ⊎_elim}
use Rattle.std.specs.Prelude.{IfSome, IsSome, ◌↔◌}
use Rattle.std.specs.Option.{option_map}
use Rattle.std.proofs.lemmas.List.{append_cancel_right}
use Rattle.std.proofs.lemmas.Bool.{cases_Bool, eqb-true}
use Rattle.pf_machine.specs.declared.control.Control.{Control}
use Rattle.pf_machine.specs.declared.control.Control.TheVariants.{Below, Jump}
use Rattle.pf_machine.specs.Meaning.Tables.{Table, IsOver, MeansOp, MeansControl}
use Rattle.pf_machine.specs.Meaning.Control.{IsControl}
use Rattle.pf_text.specs.Meaning.Lines.{tight}
use Rattle.pf_text.specs.Steps.Scan.{behind}
use Rattle.pf_text.proofs.ScanLaws.{behind-append}
use Rattle.pf_frames.specs.declared.line.TableLine.{TableLine}
use Rattle.pf_frames.specs.declared.line.TableLine.TheVariants.{Vector, Control as Controls}
use Rattle.pf_frames.specs.Meaning.LineTables.{LineTable, Jumps, Around, around, jump_text, control_text_of}
use Rattle.pf_frames.specs.Meaning.Laws.{IsLineTable, IsTableLine, IsPrintedBy}
use Rattle.pf_frames.specs.Steps.Reading.{control_in, IsTightLine, Guesses, GuessesControl, GuessesJump, GuessesLabel}
use Rattle.pf_frames.proofs.JumpLaws.{label_is, forked_apart}
use Rattle.pf_frames.proofs.TextLaws.{IsFramed, IsJump, by_kind, tight_op, op_means, guesses_framed, guesses_jump, jump_line_is}
use Rattle.pf_frames.proofs.ReadLaws.{no_long_line}

behind-some : (w t rest : List ℕ) → behind w t ≡ Some rest → t ≡ w ++ rest
behind-some [] t rest e = cc
behind-some (c ∷ w) [] rest e = absurd (cc)
behind-some (c ∷ w) (d ∷ t) rest e =
    ⊎_elim
    (λ (same : (c == d) ≡ true).
    let more : behind w t ≡ Some rest = rw same at e in
    let is : c ≡ d = eqb-true c d same in
    rw (is, behind-some w t rest more) refl)
    (λ (other : (c == d) ≡ false).
    let none : None ≡ Some rest = rw other at e in
    absurd (cc))
    (cases_Bool (c == d))

pub label_none : (a : Around) (line : List ℕ) → behind a.front line ≡ None → GuessesLabel a line None
label_none a line e = record {
  of_label = λ label name is. absurd (let some : behind a.front line ≡ Some (label ++ a.back) = rw is (behind-append a.front (label ++ a.back)) in cc);
  unless_front = λ never. refl;
}

pub label_no_back : (a : Around) (line rest : List ℕ) → behind a.front line ≡ Some rest → ((front : List ℕ) → rest ≢ front ++ a.back) → GuessesLabel a line None
label_no_back a line rest e none = record {
  of_label = λ label name is.
      absurd (let some : behind a.front line ≡ Some (label ++ a.back) = rw is (behind-append a.front (label ++ a.back)) in
      none label (cc));
  unless_front = λ never. refl;
}

named : (r : Option (List ℕ)) (label : List ℕ) → IfSome r (λ n. n ≡ label) → IsSome r → r ≡ Some label
named None label value some = absurd (cc)
named (Some n) label value some = ap Some value

pub label_some : (a : Around) (line rest label : List ℕ) (r : Option (List ℕ)) → behind a.front line ≡ Some rest → rest ≡ label ++ a.back → IfSome r (λ n. n ≡ label)
    → (IsSome r ↔ ((1 ≤ length label) × (length label ≤ 32))) → GuessesLabel a line r
label_some a line rest label r e parts value some = record {
  of_label = λ other name is.
      let there : behind a.front line ≡ Some (other ++ a.back) = rw is (behind-append a.front (other ++ a.back)) in
      let whole : rest ≡ other ++ a.back = cc in
      let same : label ≡ other = append_cancel_right label other a.back (sym parts ∙ whole) in
      let facts = label_is other name in
      named r label value (some.1 (rw same facts.some, rw same facts.few)) ∙ ap Some same;
  unless_front = λ never. absurd (never rest (behind-some a.front line rest e));
}

in_control : {O : Type 0} (found : Option (TableLine O)) (c : Control) → found ≡ Some (Controls c) → control_in found ≡ Some c
in_control found c e = rw e refl

in_none : {O : Type 0} (found : Option (TableLine O)) → found ≡ None → control_in found ≡ None
in_none found e = rw e refl

module _ {O : Type 0} (t : Table O) (is_op : O → Type 0) (l : LineTable (TableLine O)) (j : Jumps) (laws : IsLineTable l (IsTableLine t is_op)) (texts : IsPrintedBy l j t) where
  -- ---- control instructions
  pub guess_found : (line : List ℕ) (found : Option (TableLine O)) (control : Control) → Guesses l j (IsTableLine t is_op) line found → control_in found ≡ Some control → GuessesControl l j line (Some control)
  guess_found line found control g here c is e =
      ⊎_elim
      (λ (f : IsFramed t is_op l j laws texts c).
      let there = in_control found c (guesses_framed t is_op l j laws texts c line found f g e) in
      sym here ∙ there)
      (λ (f : IsJump c).
      let none = in_none found (guesses_jump t is_op l j laws texts c line found f g e) in
      absurd (cc))
      (by_kind t is_op l j laws texts c is)

  pub guess_no_line : (line : List ℕ) (found : Option (TableLine O)) (r : Option Control) → Guesses l j (IsTableLine t is_op) line found → control_in found ≡ None → GuessesJump j line r → GuessesControl l j line r
  guess_no_line line found r g none jump c is e =
      ⊎_elim
      (λ (f : IsFramed t is_op l j laws texts c).
      let there = in_control found c (guesses_framed t is_op l j laws texts c line found f g e) in
      absurd (cc))
      (λ (f : IsJump c). jump f.below f.label f.name (jump_line_is t is_op l j laws texts c line f e) ∙ ap Some (sym f.is))
      (by_kind t is_op l j laws texts c is)

  other_front : (line label : List ℕ) → line ≡ jump_text j.onward label → (rest : List ℕ) → line ≡ j.below.front ++ rest → ⊥
  other_front line label e rest is = forked_apart j.below.front j.onward.front rest (label ++ j.onward.back) texts.forked (sym is ∙ e)

  pub jump_below : (line : List ℕ) (o : Option (List ℕ)) (label : List ℕ) → GuessesLabel (around j true) line o → o ≡ Some label → GuessesJump j line (Some (Below label))
  jump_below line o label g found true other name e = let some = g.of_label other name e in cc
  jump_below line o label g found false other name e = let none = g.unless_front (other_front line other e) in absurd (cc)

  pub jump_onward : (line : List ℕ) (o r : Option (List ℕ)) → GuessesLabel (around j true) line o → o ≡ None → GuessesLabel (around j false) line r → GuessesJump j line (option_map Jump r)
  jump_onward line o r first none g true other name e = let some = first.of_label other name e in absurd (cc)
  jump_onward line o r first none g false other name e = rw (g.of_label other name e) refl

  -- ---- what follows for a line of which this is the tight one
  pub op_long : (line : List ℕ) → 80 < length (tight line) → (op : O) → is_op op → IsOver t op → MeansOp t line op → ⊥
  op_long line long op is over means = no_long_line l (IsTableLine t is_op) laws (Vector op) (tight line) (is, over) (tight_op t is_op l j laws texts line op means) long

  op_guess : (line bare : List ℕ) (r : Option (TableLine O)) → bare ≡ tight line → Guesses l j (IsTableLine t is_op) bare r → (op : O) → is_op op → IsOver t op → MeansOp t line op → r ≡ Some (Vector op)
  op_guess line bare r e g op is over means = g.of_line (Vector op) (is, over) (rw e (tight_op t is_op l j laws texts line op means))

  pub op_none : (line bare : List ℕ) → bare ≡ tight line → Guesses l j (IsTableLine t is_op) bare None → (op : O) → is_op op → IsOver t op → MeansOp t line op → ⊥
  op_none line bare e g op is over means = let some = op_guess line bare None e g op is over means in cc

  pub op_other : (line bare : List ℕ) (x : TableLine O) → bare ≡ tight line → Guesses l j (IsTableLine t is_op) bare (Some x) → (IsTightLine l x bare → ⊥) → (op : O) → is_op op → IsOver t op → MeansOp t line op → ⊥
  op_other line bare x e g differs op is over means =
      let some = op_guess line bare (Some x) e g op is over means in
      let same : Vector op ≡ x = cc in
      let here : IsTightLine l (Vector op) bare = rw e (tight_op t is_op l j laws texts line op means) in
      differs (subst (λ (x : TableLine O). IsTightLine l x bare) same here)

  pub op_control : (line bare : List ℕ) (x : TableLine O) (c : Control) → x ≡ Controls c → bare ≡ tight line → Guesses l j (IsTableLine t is_op) bare (Some x) → (op : O) → is_op op → IsOver t op → MeansOp t line op → ⊥
  op_control line bare x c k e g op is over means = let some = op_guess line bare (Some x) e g op is over means in cc

  pub op_bad : (line bare : List ℕ) (x : TableLine O) (other : O) → x ≡ Vector other → bare ≡ tight line → Guesses l j (IsTableLine t is_op) bare (Some x) → ((is_op other × IsOver t other) → ⊥) → (op : O) → is_op op → IsOver t op → MeansOp t line op → ⊥
  op_bad line bare x other k e g bad op is over means =
      let some = op_guess line bare (Some x) e g op is over means in
      let same : op ≡ other = cc in
      bad (subst (λ (o : O). is_op o) same is, subst (λ (o : O). IsOver t o) same over)

  pub op_is : (line bare : List ℕ) (x : TableLine O) (op : O) → x ≡ Vector op → bare ≡ tight line → IsTightLine l x bare → MeansOp t line op
  op_is line bare x op k e here =
      let there : IsTightLine l (Vector op) (tight line) = subst (λ (x : TableLine O). IsTightLine l x (tight line)) k (rw e at here) in
      op_means t is_op l j laws texts line op there

  control_guess : (line bare : List ℕ) (r : Option Control) → bare ≡ tight line → GuessesControl l j bare r → (c : Control) → IsControl c → MeansControl t line c → r ≡ Some c
  control_guess line bare r e g c is means = g c is (e ∙ (means ∙ ap tight (texts.control c)))

  pub control_none : (line bare : List ℕ) → bare ≡ tight line → GuessesControl l j bare None → (c : Control) → IsControl c → MeansControl t line c → ⊥
  control_none line bare e g c is means = let some = control_guess line bare None e g c is means in cc

  pub control_bad : (line bare : List ℕ) (other : Control) → bare ≡ tight line → GuessesControl l j bare (Some other) → (IsControl other → ⊥) → (c : Control) → IsControl c → MeansControl t line c → ⊥
  control_bad line bare other e g bad c is means =
      let some = control_guess line bare (Some other) e g c is means in
      let same : c ≡ other = cc in
      bad (rw (← same) is)

  pub control_other : (line bare : List ℕ) (other : Control) → bare ≡ tight line → GuessesControl l j bare (Some other) → (tight (control_text_of l j other) ≡ bare → ⊥) → (c : Control) → IsControl c → MeansControl t line c → ⊥
  control_other line bare other e g differs c is means =
      let some = control_guess line bare (Some other) e g c is means in
      let same : other ≡ c = cc in
      differs (ap (λ c. tight (control_text_of l j c)) same ∙ sym (e ∙ (means ∙ ap tight (texts.control c))))

  pub control_is : (line bare : List ℕ) (c : Control) → bare ≡ tight line → tight (control_text_of l j c) ≡ bare → MeansControl t line c
  control_is line bare c e here = sym e ∙ (sym here ∙ ap tight (sym (texts.control c)))
