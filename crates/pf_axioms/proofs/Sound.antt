-- What is proved of each row, and what follows of every row.
use Rattle.std.proofs.Common.{◌≡◌, refl, sym, ap, ◌∙◌, subst, ℕ, ℤ, ◌≤ℤ◌, Bool, true, false, cond, List, length, Option, Some, None, Ok, inl, inr, arith}
use Rattle.std.specs.Prelude.{◌&&◌}
use Rattle.std.proofs.lemmas.Int.{ints}
use Rattle.pf_ints.specs.Meaning.Ranges.{Range, Includes}
use Rattle.pf_forms.specs.Meaning.Shapes.{Shape}
use Rattle.pf_forms.specs.Meaning.Equality.{same}
use Rattle.pf_forms.specs.Meaning.Values.{FVal, AreIn, G, IsFormOver}
use Rattle.pf_forms.proofs.BoundLaws.{value_in}
use Rattle.pf_forms.proofs.EqualityLaws.{both, same_true, same_itself}
use Rattle.pf_templates.specs.Meaning.Letters.{Letters, start}
use Rattle.pf_templates.specs.Meaning.Templates.{Tree, at, looked}
use Rattle.pf_templates.specs.Meaning.Building.{has_room, AreForms}
use Rattle.pf_templates.proofs.TemplateLaws.{form_of_room, no_form, looked_at}
use Rattle.pf_axioms.specs.declared.needs.Needs.{Needs}
use Rattle.pf_axioms.specs.Meaning.Needs.{suits, asks, other, wanted, is_above, is_below, keeps_ends}
use Rattle.pf_axioms.specs.Meaning.Rows.{Law}
use Rattle.pf_axioms.specs.Meaning.AxiomSteps.{Answer, Matches, Verdict, Granted, Missing, Denied, by_ends, by_two, verdict, LawStep, IsAnswer, KeepsValue, by_verdict, limited, suited, answer}

-- the letters that are looked up in a form
abbrev pub letters_in : Tree → Shape → Letters
letters_in left f = looked left f (start f)

-- the letters that are looked up in the left form at l say the same of the row as l
pub record Agrees (left right : Tree) (needs : Needs) (l : Letters) : Type 0 where
  pub is_left : at (letters_in left (at l left)) left ≡ at l left
  pub is_right : at (letters_in left (at l left)) right ≡ at l right
  pub suited : suits needs (letters_in left (at l left)) ≡ suits needs l
  pub asked : (ranges : List Range) → verdict needs ranges (letters_in left (at l left)) ≡ verdict needs ranges l

abbrev is_at_least : Option ℤ → ℤ → Type 0
is_at_least None n = Unit {0}
is_at_least (Some low) n = low ≤ℤ n

abbrev is_at_most : Option ℤ → ℤ → Type 0
is_at_most None n = Unit {0}
is_at_most (Some high) n = n ≤ℤ high

-- x's value keeps the ends, where s holds the other form's value
pub record Admitted (needs : Needs) (v : ℕ → ℤ) (l : Letters) : Type 0 where
  pub s : Range
  pub inside : Includes s (FVal v (other needs l))
  pub low : is_at_least (wanted needs l s).low (FVal v l.x)
  pub high : is_at_most (wanted needs l s).high (FVal v l.x)

-- both forms have one value
abbrev pub SameValue : Tree → Tree → Needs → Type 0
SameValue left right needs =
    (v : ℕ → ℤ) (l : Letters) → suits needs l ≡ true → (asks needs ≡ true → Admitted needs v l) → FVal v (at l right) ≡ FVal v (at l left)

pub record IsSound (left right : Tree) (needs : Needs) : Type 0 where
  pub agrees : (count : ℕ) (l : Letters) → IsFormOver count (at l left) → Agrees left right needs l
  pub same_value : SameValue left right needs

-- ---- intervals that are granted

above : (o : Option ℤ) (m n : ℤ) → is_above o m ≡ true → m ≤ℤ n → is_at_least o n
above None m n e h = tt
above (Some low) m n e h = omega (arith, ints, e, h)

below : (o : Option ℤ) (m n : ℤ) → is_below o m ≡ true → n ≤ℤ m → is_at_most o n
below None m n e h = tt
below (Some high) m n e h = omega (arith, ints, e, h)

ends_kept : (keeps : Bool) (got : Range) → by_ends keeps got ≡ Granted → keeps ≡ true
ends_kept true got e = refl
ends_kept false got e = absurd (cc)

module _ (needs : Needs) (ranges : List Range) (l : Letters) (v : ℕ → ℤ) (inside : AreIn ranges v) where
  admitted_by : (o p : Option Range) → G ranges l.x ≡ o → G ranges (other needs l) ≡ p → by_two needs l o p ≡ Granted → Admitted needs v l
  admitted_by None p d e g = absurd (cc)
  admitted_by (Some r) None d e g = absurd (cc)
  admitted_by (Some r) (Some s) d e g =
      let kept = both _ _ (ends_kept (keeps_ends (wanted needs l s) r) r g) in
      let x_in = value_in ranges v inside l.x r d in
      record {
        s = s;
        inside = value_in ranges v inside (other needs l) s e;
        low = above (wanted needs l s).low r.lo (FVal v l.x) kept.0 x_in.low;
        high = below (wanted needs l s).high r.hi (FVal v l.x) kept.1 x_in.high;
      }

  pub admitted : verdict needs ranges l ≡ Granted → asks needs ≡ true → Admitted needs v l
  admitted g asked =
      admitted_by (G ranges l.x) (G ranges (other needs l)) refl refl
      (subst (λ b. cond b (by_two needs l (G ranges l.x) (G ranges (other needs l))) Granted ≡ Granted) asked g)

-- ---- every sound row

found_by : (a b : Bool) (v w : Verdict) (room : Bool) (g h : Shape) → a ≡ true → b ≡ true → v ≡ w → g ≡ h → suited (a && b) (by_verdict v (limited room g)) ≡ by_verdict w (limited room h)
found_by a b v w room g h p q r s = rw (p, q, r, s) refl

module _ (left right : Tree) (needs : Needs) (sound : IsSound left right needs) (ranges : List Range) where
  -- at the left form the test of the match passes
  passes_at : (l : Letters) → IsFormOver (length ranges) (at l left) → suits needs l ≡ true → same (at (letters_in left (at l left)) left) (at l left) && suits needs (letters_in left (at l left)) ≡ true
  passes_at l i s =
      let a = sound.agrees (length ranges) l i in
      let p : same (at (letters_in left (at l left)) left) (at l left) ≡ true = ap (λ g. same g (at l left)) a.is_left ∙ same_itself (at l left) in
      rw (p, a.suited, s) refl

  passes : (f : Shape) → IsFormOver (length ranges) f → (l : Letters) → Matches left needs f l → same (at (letters_in left f) left) f && suits needs (letters_in left f) ≡ true
  passes f i l h =
      subst (λ g. same (at (letters_in left g) left) g && suits needs (letters_in left g) ≡ true) (sym h.is_left)
      (passes_at l (subst (IsFormOver (length ranges)) h.is_left i) h.suited)

  -- the answer at letters at which f is the left form
  answer_is_at : (l : Letters) → IsFormOver (length ranges) (at l left) → suits needs l ≡ true → answer (Law left right needs) ranges (at l left) ≡ by_verdict (verdict needs ranges l) (limited (has_room (letters_in left (at l left)) right) (at l right))
  answer_is_at l i s =
      let a = sound.agrees (length ranges) l i in
      found_by _ _ _ _ _ _ _ (ap (λ g. same g (at l left)) a.is_left ∙ same_itself (at l left)) (a.suited ∙ s) (a.asked ranges) a.is_right

  answer_is : (f : Shape) → IsFormOver (length ranges) f → (l : Letters) → Matches left needs f l → answer (Law left right needs) ranges f ≡ by_verdict (verdict needs ranges l) (limited (has_room (letters_in left f) right) (at l right))
  answer_is f i l h =
      subst (λ g. answer (Law left right needs) ranges g ≡ by_verdict (verdict needs ranges l) (limited (has_room (letters_in left g) right) (at l right)))
      (sym h.is_left)
      (answer_is_at l (subst (IsFormOver (length ranges)) h.is_left i) h.suited)

  right_is : (f : Shape) → IsFormOver (length ranges) f → (l : Letters) → Matches left needs f l → at (letters_in left f) right ≡ at l right
  right_is f i l h =
      subst (λ g. at (letters_in left g) right ≡ at l right) (sym h.is_left)
      (sound.agrees (length ranges) l (subst (IsFormOver (length ranges)) h.is_left i)).is_right

  module _ (f : Shape) (is_form : IsFormOver (length ranges) f) where
    here : Letters
    here = letters_in left f

    are_forms : AreForms (length ranges) (letters_in left f)
    are_forms = looked_at (length ranges) left f (start f) (letters_in left f) refl refl is_form

    by_room : (b : Bool) → has_room (letters_in left f) right ≡ b → Matches left needs f (letters_in left f) → verdict needs ranges (letters_in left f) ≡ Granted → IsAnswer (Law left right needs) ranges f (limited b (at (letters_in left f) right))
    by_room true e m g =
        record { letters = letters_in left f; matched = m; granted = g; is_right = refl; limits = form_of_room (length ranges) (letters_in left f) are_forms right e }
    by_room false e m g = record { letters = letters_in left f; matched = m; wide = inr (no_form (length ranges) (letters_in left f) right e) }

    by_said : (w : Verdict) → verdict needs ranges (letters_in left f) ≡ w → Matches left needs f (letters_in left f) → IsAnswer (Law left right needs) ranges f (by_verdict w (limited (has_room (letters_in left f) right) (at (letters_in left f) right)))
    by_said Granted e m = by_room (has_room (letters_in left f) right) refl m e
    by_said Missing e m = record { letters = letters_in left f; matched = m; wide = inl e }
    by_said (Denied got) e m = record { letters = letters_in left f; matched = m; denied = e }

    by_test : (b : Bool) → same (at (letters_in left f) left) f && suits needs (letters_in left f) ≡ b → IsAnswer (Law left right needs) ranges f (suited b (by_verdict (verdict needs ranges (letters_in left f)) (limited (has_room (letters_in left f) right) (at (letters_in left f) right))))
    by_test true e =
        let p = both _ _ e in
        by_said (verdict needs ranges (letters_in left f)) refl (record { is_left = sym (same_true _ _ p.0); suited = p.1 })
    by_test false e = λ l h. (let p = passes f is_form l h in cc (e, p))

    pub step_of : IsAnswer (Law left right needs) ranges f (answer (Law left right needs) ranges f)
    step_of = by_test (same (at (letters_in left f) left) f && suits needs (letters_in left f)) refl

    room_of : (g : Shape) → LawStep left right needs ranges f g → (b : Bool) → has_room (letters_in left f) right ≡ b → b ≡ true
    room_of g s true e = refl
    room_of g s false e =
        absurd (no_form (length ranges) (letters_in left f) right e (subst (IsFormOver (length ranges)) (s.is_right ∙ sym (right_is f is_form s.letters s.matched)) s.limits))

    pub only_of : (g : Shape) → LawStep left right needs ranges f g → ◌≡◌ {A = Answer} (answer (Law left right needs) ranges f) (Ok g)
    only_of g s =
        answer_is f is_form s.letters s.matched ∙ ap (λ w. by_verdict w (limited (has_room (letters_in left f) right) (at s.letters right))) s.granted
        ∙ ap (λ b. limited b (at s.letters right)) (room_of g s _ refl)
        ∙ ap (λ h. Ok h) (sym s.is_right)

    pub keeps_of : (g : Shape) → LawStep left right needs ranges f g → KeepsValue ranges f g
    keeps_of g s = record {
      same_value = λ v inside.
          ap (FVal v) s.is_right ∙ sound.same_value v s.letters s.matched.suited (admitted needs ranges s.letters v inside s.granted)
          ∙ sym (ap (FVal v) s.matched.is_left);
      form = s.limits;
    }
