-- White space that is counted is pieces of white space, and pieces are counted whole.
use Rattle.std.proofs.Common.{◌≡◌, ℕ, suc, ◌+◌, ◌<◌, ◌≤◌, List, [], ◌∷◌, ◌++◌, length, take, drop, Bool, true, false, eqb, refl, sym, ap, ◌∙◌, append_assoc, arith, inl, inr, subst}
use Rattle.std.specs.List.{AllByRecursion, concat}
use Rattle.std.proofs.lemmas.Bool.{cases_Bool, eqb-true}
use Rattle.std.proofs.lemmas.Bool.Decides.{nat_tests}
use Rattle.std.proofs.lemmas.List.{length-append}
use Rattle.pf_images.specs.Meaning.Pgm.{is_white, ends_comment, IsPiece, IsBlank, begins_blank}
use Rattle.pf_images.specs.Steps.Reading.{blank_count}

-- pieces of white space, or none
abbrev pub IsSpace : List ℕ → Type 0
IsSpace text = (pieces : List (List ℕ)) × AllByRecursion IsPiece pieces × (text ≡ concat pieces)

-- the rest of a comment, and pieces behind it
abbrev pub IsSpaceIn : Bool → List ℕ → Type 0
IsSpaceIn false text = IsSpace text
IsSpaceIn true text = (note : List ℕ) × (c : ℕ) × (rest : List ℕ) × AllByRecursion (λ b. ends_comment b ≡ false) note × (ends_comment c ≡ true) × IsSpace rest × (text ≡ note ++ c ∷ rest)

none : IsSpace []
none = ([], tt, refl)

one_white : (c : ℕ) (rest : List ℕ) → is_white c ≡ true → IsSpace rest → IsSpace (c ∷ rest)
one_white c rest white s = ((c ∷ []) ∷ s.0, (inl (c, white, refl), s.1), ap (λ (t : List ℕ). c ∷ t) s.2)

one_comment : (rest : List ℕ) → IsSpaceIn true rest → IsSpace (35 ∷ rest)
one_comment rest s =
    let behind = s.5 in (
      (35 ∷ (s.0 ++ s.1 ∷ [])) ∷ behind.0,
      (inr (s.0, s.1, s.3, s.4, refl), behind.1),
      ap (λ (t : List ℕ). 35 ∷ t) (s.6 ∙ ap (λ (t : List ℕ). s.0 ++ s.1 ∷ t) behind.2 ∙ sym (append_assoc s.0 (s.1 ∷ []) (concat behind.0))),
    )

closes : (c : ℕ) (rest : List ℕ) → ends_comment c ≡ true → IsSpace rest → IsSpaceIn true (c ∷ rest)
closes c rest e s = ([], c, rest, tt, e, s, refl)

goes_on : (c : ℕ) (rest : List ℕ) → ends_comment c ≡ false → IsSpaceIn true rest → IsSpaceIn true (c ∷ rest)
goes_on c rest e s = (c ∷ s.0, s.1, s.2, (e, s.3), s.4, s.5, ap (λ (t : List ℕ). c ∷ t) s.6)

at_hash : (cs : List ℕ) → (0 < length (drop (blank_count true cs) cs) → IsSpaceIn true (take (blank_count true cs) cs))
    → 0 < length (drop (blank_count false (35 ∷ cs)) (35 ∷ cs)) → IsSpaceIn false (take (blank_count false (35 ∷ cs)) (35 ∷ cs))
at_hash cs h left = one_comment _ (h left)

-- where bytes are left, what was counted is whole pieces
pub counted_space : (inside : Bool) (bytes : List ℕ) → 0 < length (drop (blank_count inside bytes) bytes) → IsSpaceIn inside (take (blank_count inside bytes) bytes)
counted_space inside [] left = absurd (omega arith)
counted_space true (c ∷ cs) left =
    elim (cases_Bool (ends_comment c)) [
      | inl e ↦ rw e (closes c _ e (counted_space false cs (rw e at left)))
      | inr e ↦ rw e (goes_on c _ e (counted_space true cs (rw e at left)))
    ]
counted_space false (c ∷ cs) left =
    elim (cases_Bool (eqb c 35)) [
      | inl e ↦ subst (λ (n : ℕ). 0 < length (drop (blank_count false (n ∷ cs)) (n ∷ cs)) → IsSpaceIn false (take (blank_count false (n ∷ cs)) (n ∷ cs))) (sym (eqb-true c 35 e)) (at_hash cs (counted_space true cs)) left
      | inr e ↦
          elim (cases_Bool (is_white c)) [
            | inl w ↦ rw (w, e) (one_white c _ w (counted_space false cs (rw (w, e) at left)))
            | inr w ↦ rw (w, e) none
          ]
    ]

-- where white space stands in front, it is one piece or more
pub counted_blank : (c : ℕ) (cs : List ℕ) → begins_blank true c ≡ true → 0 < length (drop (blank_count false (c ∷ cs)) (c ∷ cs)) → IsBlank (take (blank_count false (c ∷ cs)) (c ∷ cs))
counted_blank c cs b left =
    let s = counted_space false (c ∷ cs) left in
    let one : 1 ≤ length (take (blank_count false (c ∷ cs)) (c ∷ cs)) = rw b (omega arith) in
    (s.0, some_piece s.0 (subst (λ (t : List ℕ). 1 ≤ length t) s.2 one), s.1, s.2)
  where
    some_piece : (pieces : List (List ℕ)) → 1 ≤ length (concat pieces) → 0 < length pieces
    some_piece [] h = absurd (omega arith)
    some_piece (p ∷ ps) h = omega arith

-- a comment is counted whole
counted_note : (note : List ℕ) (c : ℕ) (rest : List ℕ) → AllByRecursion (λ b. ends_comment b ≡ false) note → ends_comment c ≡ true → blank_count true (note ++ c ∷ rest) ≡ suc (length note + blank_count false rest)
counted_note [] c rest all e = rw e (omega arith)
counted_note (b ∷ note) c rest all e = rw all.0 (ap suc (counted_note note c rest all.1 e ∙ omega arith))

white_no_hash : (c : ℕ) → is_white c ≡ true → eqb c 35 ≡ false
white_no_hash c w = grind (arith, nat_tests)

counted_piece : (piece rest : List ℕ) → IsPiece piece → blank_count false (piece ++ rest) ≡ length piece + blank_count false rest
counted_piece piece rest (inl w) = subst (λ (t : List ℕ). blank_count false (t ++ rest) ≡ length t + blank_count false rest) (sym w.2) (rw (w.1, white_no_hash w.0 w.1) (omega arith))
counted_piece piece rest (inr n) =
    let regrouped : 35 ∷ (n.0 ++ n.1 ∷ [] ++ rest) ≡ 35 ∷ (n.0 ++ n.1 ∷ rest) = ap (λ (t : List ℕ). 35 ∷ t) (append_assoc n.0 (n.1 ∷ []) rest) in
    let whole : blank_count false (35 ∷ (n.0 ++ n.1 ∷ [] ++ rest)) ≡ suc (suc (length n.0 + blank_count false rest)) = ap (blank_count false) regrouped ∙ ap suc (counted_note n.0 n.1 rest n.2 n.3) in
    subst (λ (t : List ℕ). blank_count false (t ++ rest) ≡ length t + blank_count false rest) (sym n.4) (omega (arith, whole, length-append n.0 (n.1 ∷ [])))

counted_pieces : (pieces : List (List ℕ)) (c : ℕ) (cs : List ℕ) → AllByRecursion IsPiece pieces → begins_blank true c ≡ false → blank_count false (concat pieces ++ c ∷ cs) ≡ length (concat pieces)
counted_pieces [] c cs all b = rw b refl
counted_pieces (p ∷ ps) c cs all b =
    let regrouped : blank_count false (p ++ concat ps ++ c ∷ cs) ≡ blank_count false (p ++ (concat ps ++ c ∷ cs)) = ap (blank_count false) (append_assoc p (concat ps) (c ∷ cs)) in
    omega (arith, regrouped, counted_piece p (concat ps ++ c ∷ cs) all.0, counted_pieces ps c cs all.1 b, length-append p (concat ps))

-- white space is counted whole, up to a byte that isn't of it
pub blank_again : (blank : List ℕ) (c : ℕ) (cs : List ℕ) → IsBlank blank → begins_blank true c ≡ false → blank_count false (blank ++ c ∷ cs) ≡ length blank
blank_again blank c cs h b = subst (λ (t : List ℕ). blank_count false (t ++ c ∷ cs) ≡ length t) (sym h.3) (counted_pieces h.0 c cs h.2 b)

-- white space begins with a byte that begins white space
pub blank_begins : (blank rest : List ℕ) → IsBlank blank → (c : ℕ) × (cs : List ℕ) × (blank ++ rest ≡ c ∷ cs) × (begins_blank true c ≡ true)
blank_begins blank rest h = subst (λ (t : List ℕ). (c : ℕ) × (cs : List ℕ) × (t ++ rest ≡ c ∷ cs) × (begins_blank true c ≡ true)) (sym h.3) (first h.0 h.1 h.2)
  where
    piece_begins : (piece more : List ℕ) → IsPiece piece → (c : ℕ) × (cs : List ℕ) × (piece ++ more ≡ c ∷ cs) × (begins_blank true c ≡ true)
    piece_begins piece more (inl w) = (w.0, more, ap (λ (t : List ℕ). t ++ more) w.2, rw w.1 refl)
    piece_begins piece more (inr n) = (35, n.0 ++ n.1 ∷ [] ++ more, ap (λ (t : List ℕ). t ++ more) n.4, refl)

    first : (pieces : List (List ℕ)) → 0 < length pieces → AllByRecursion IsPiece pieces → (c : ℕ) × (cs : List ℕ) × (concat pieces ++ rest ≡ c ∷ cs) × (begins_blank true c ≡ true)
    first [] some all = absurd (omega arith)
    first (p ∷ ps) some all =
        let b = piece_begins p (concat ps ++ rest) all.0 in
        (b.0, b.1, append_assoc p (concat ps) rest ∙ b.2, b.3)
