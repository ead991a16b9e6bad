-- Numbers are read exactly as their grammar says.
use Rattle.std.proofs.Common.{◌≡◌, refl, sym, ap, ◌∙◌, subst, ℕ, zero, suc, ◌<◌, ◌≤◌, List, [], ◌∷◌, Bool, true, false, length, arith, ⊎_elim}
use Rattle.std.specs.Prelude.{Option, Some, None, option_map, ℤ, pos, codes}
use Rattle.std.specs.Str.{bytes_eq}
use Rattle.std.proofs.lemmas.Bool.{cases_Bool}
use Rattle.std.proofs.lemmas.Slice.Eq.{bytes_eq-Decides}
use Rattle.pf_rules.specs.declared.number.LinOf.{LinOf}
use Rattle.pf_rules.specs.declared.number.LinOf.TheVariants as of
use Rattle.pf_rules.specs.declared.number.LinPart.{LinPart}
use Rattle.pf_rules.specs.declared.number.Amount.{Amount}
use Rattle.pf_rules.specs.declared.number.Amount.TheVariants as amount
use Rattle.pf_rules.specs.declared.number.NumberItem.TheVariants as item
use Rattle.pf_rules.specs.declared.number.NumberPart.{NumberPart}
use Rattle.pf_rules.specs.declared.number.Number.{Number}
use Rattle.pf_rulefile.specs.Meaning.Tokens.{int_of}
use Rattle.pf_rulefile.specs.Meaning.Grammar.{Tokens, AreParts, last_part, more_parts, IsSum, unsigned_sum, negated_sum, lin_int, lin_unit, lin_times, plain_word, in_brackets, item_word, item_power, item_times, sum_sign, unit_of, lin, IsLin, plain_amount, IsAmount, part, plain_item, IsItem, IsNumber}
use Rattle.pf_rulefile.specs.Steps.Fronts.{after, sign_by}
use Rattle.pf_rulefile.specs.Steps.NumberReads.{first_by, sum_on, sum_read, signed_read, times_by, lin_by, lin_read, linear_at, exponent_read, power_read, behind_base, times_at, behind_times, multiple_by, item_by, item_read, number_of, number_read}
use Rattle.pf_rulefile.proofs.Fronts.{given, then_is, and_then_is, map_is, after_is, sign_is, sign_again, other, no_front}

-- ---- sums
module _ (A : Type 0) (sign : List ℕ → Option Bool) (Is : Bool → A → Tokens → Tokens → Type 0) (read : Bool → Tokens → Option (A × Tokens)) where
  module _ (sound : (m : Bool) (ts : Tokens) (q : A × Tokens) → read m ts ≡ Some q → Is m q.0 ts q.1) where
    on_sound : (rest : Bool → Tokens → Option (List A × Tokens)) → ((m : Bool) (ts : Tokens) (q : List A × Tokens) → rest m ts ≡ Some q → AreParts sign Is m q.0 ts q.1) →
        (m : Bool) (a : A) (ts us : Tokens) → Is m a ts us → (s : Option (Bool × Tokens)) → sign_by sign us ≡ s → (q : List A × Tokens) → sum_on rest a us s ≡ Some q → AreParts sign Is m q.0 ts q.1
    on_sound rest ih m a ts us i None h q e = given (λ (p : List A × Tokens). AreParts sign Is m p.0 ts p.1) (a ∷ [], us) q e (last_part i)
    on_sound rest ih m a ts us i (Some s) h q e =
        let r = map_is (rest s.0 s.1) (λ p. (a ∷ p.0, p.1)) q e in
        let n = sign_is sign us s h in
        subst (λ (p : List A × Tokens). AreParts sign Is m p.0 ts p.1) r.2 (more_parts (subst (λ (vs : Tokens). Is m a ts vs) n.1 i) n.2 (ih s.0 s.1 r.0 r.1))

    pub parts_sound : (most : ℕ) (m : Bool) (ts : Tokens) (q : List A × Tokens) → sum_read (sign_by sign) read most m ts ≡ Some q → AreParts sign Is m q.0 ts q.1
    parts_sound zero m ts q e = absurd (cc)
    parts_sound (suc most) m ts q e =
        let a = then_is (read m ts) (λ a us. sum_on (sum_read (sign_by sign) read most) a us (sign_by sign us)) q e in
        on_sound (sum_read (sign_by sign) read most) (parts_sound most) m a.0.0 ts a.0.1 (sound m ts a.0 a.1) (sign_by sign a.0.1) refl q a.2

  pub parts_shrink : ((m : Bool) (a : A) (ts us : Tokens) → Is m a ts us → length us < length ts) → (m : Bool) (xs : List A) (ts us : Tokens) → AreParts sign Is m xs ts us → length us < length ts
  parts_shrink shrink m xs ts us (last_part {a = a} i) = shrink m a ts us i
  parts_shrink shrink m xs ts us (more_parts {next = n} {a = a} {xs = bs} {s = s} {us = vs} i e rest) =
      let here : length (s ∷ vs) < length ts = shrink m a ts (s ∷ vs) i in let onward : length us < length vs = parts_shrink shrink n bs vs us rest in omega (arith, here, onward)

  module _ (F : Tokens → Type 0) (shrink : (m : Bool) (a : A) (ts us : Tokens) → Is m a ts us → length us < length ts) (follows : (s : List ℕ) (n : Bool) (us : Tokens) → sign s ≡ Some n → F (s ∷ us))
      (bound : ℕ) (complete : (m : Bool) (a : A) (ts us : Tokens) → length ts ≤ bound → Is m a ts us → F us → read m ts ≡ Some (a, us)) where
    pub parts_complete : (m : Bool) (xs : List A) (ts us : Tokens) → AreParts sign Is m xs ts us → F us → sign_by sign us ≡ None → length ts ≤ bound → (most : ℕ) → length ts ≤ most → sum_read (sign_by sign) read most m ts ≡ Some (xs, us)
    parts_complete m xs ts us (last_part {a = a} i) f none b zero h = absurd (let some : length us < length ts = shrink m a ts us i in omega (arith, some, h))
    parts_complete m xs ts us (last_part {a = a} i) f none b (suc most) h = rw (complete m a ts us b i f) (rw none refl)
    parts_complete m xs ts us (more_parts {a = a} {s = s} {us = vs} i e rest) f none b zero h = absurd (let some : length (s ∷ vs) < length ts = shrink m a ts (s ∷ vs) i in omega (arith, some, h))
    parts_complete m xs ts us (more_parts {next = n} {a = a} {xs = bs} {s = s} {us = vs} i e rest) f none b (suc most) h =
        let some : length (s ∷ vs) < length ts = shrink m a ts (s ∷ vs) i in
        rw (complete m a ts (s ∷ vs) b i (follows s n vs e)) (rw (sign_again sign s n vs e) (rw (parts_complete n bs vs us rest f none (omega (arith, some, b)) most (omega (arith, some, h))) refl))

    pub parts_begin : (m : Bool) (xs : List A) (ts us : Tokens) → AreParts sign Is m xs ts us → F us → length ts ≤ bound → (q : A × Tokens) × (read m ts ≡ Some q)
    parts_begin m xs ts us (last_part {a = a} i) f b = ((a, us), complete m a ts us b i f)
    parts_begin m xs ts us (more_parts {next = n} {a = a} {s = s} {us = vs} i e rest) f b = ((a, s ∷ vs), complete m a ts (s ∷ vs) b i (follows s n vs e))

-- the first part may be taken away
module _ (A : Type 0) (Is : Bool → A → Tokens → Tokens → Type 0) (read : Bool → Tokens → Option (A × Tokens)) where
  pub signed_sound : ((m : Bool) (ts : Tokens) (q : A × Tokens) → read m ts ≡ Some q → Is m q.0 ts q.1) → (most : ℕ) (ts : Tokens) (q : List A × Tokens) → signed_read read most ts ≡ Some q → IsSum Is q.0 ts q.1
  signed_sound sound most ts q e = by_first (after (codes "-") ts) refl e
    where
      by_first : (o : Option Tokens) → after (codes "-") ts ≡ o → sum_read (sign_by sum_sign) read most (first_by ts o).0 (first_by ts o).1 ≡ Some q → IsSum Is q.0 ts q.1
      by_first None h f = unsigned_sum (parts_sound A sum_sign Is read sound most false ts q f)
      by_first (Some us) h f = subst (λ (vs : Tokens). IsSum Is q.0 vs q.1) (sym (after_is (codes "-") ts us h)) (negated_sum (parts_sound A sum_sign Is read sound most true us q f))

  pub sum_shrink : ((m : Bool) (a : A) (ts us : Tokens) → Is m a ts us → length us < length ts) → (xs : List A) (ts us : Tokens) → IsSum Is xs ts us → length us < length ts
  sum_shrink shrink xs ts us (unsigned_sum d) = parts_shrink A sum_sign Is read shrink false xs ts us d
  sum_shrink shrink xs ts us (negated_sum {ts = vs} d) = let less : length us < length vs = parts_shrink A sum_sign Is read shrink true xs vs us d in omega (arith, less)

  module _ (F : Tokens → Type 0) (shrink : (m : Bool) (a : A) (ts us : Tokens) → Is m a ts us → length us < length ts) (follows : (s : List ℕ) (n : Bool) (us : Tokens) → sum_sign s ≡ Some n → F (s ∷ us))
      (bound : ℕ) (complete : (m : Bool) (a : A) (ts us : Tokens) → length ts ≤ bound → Is m a ts us → F us → read m ts ≡ Some (a, us)) (no_minus : (us : Tokens) → read false (codes "-" ∷ us) ≡ None) where
    plain_first : (ts : Tokens) (q : A × Tokens) → read false ts ≡ Some q → (o : Option Tokens) → after (codes "-") ts ≡ o → o ≡ None
    plain_first ts q e None h = refl
    plain_first ts q e (Some us) h = absurd (let none : read false ts ≡ None = ap (read false) (after_is (codes "-") ts us h) ∙ no_minus us in cc)

    pub signed_complete : (xs : List A) (ts us : Tokens) → IsSum Is xs ts us → F us → sign_by sum_sign us ≡ None → length ts ≤ bound → (most : ℕ) → length ts ≤ most → signed_read read most ts ≡ Some (xs, us)
    signed_complete xs ts us (unsigned_sum d) f none b most h =
        let begins = parts_begin A sum_sign Is read F shrink follows bound complete false xs ts us d f b in
        rw (plain_first ts begins.0 begins.1 (after (codes "-") ts) refl) (parts_complete A sum_sign Is read F shrink follows bound complete false xs ts us d f none b most h)
    signed_complete xs ts us (negated_sum {ts = vs} d) f none b most h = parts_complete A sum_sign Is read F shrink follows bound complete true xs vs us d f none (omega (arith, b)) most (omega (arith, h))

-- ---- linear amounts
pub lin_sound : (m : Bool) (ts : Tokens) (q : LinPart × Tokens) → lin_read m ts ≡ Some q → IsLin m q.0 ts q.1
lin_sound m [] q e = absurd (cc)
lin_sound m (t ∷ ts) q e = by_word (unit_of t) (int_of t) refl refl e
  where
    times_sound : (n : ℤ) → int_of t ≡ Some n → (o : Option Tokens) → after (codes "*") ts ≡ o → times_by m n ts o ≡ Some q → IsLin m q.0 (t ∷ ts) q.1
    times_sound n h None f e = given (λ (p : LinPart × Tokens). IsLin m p.0 (t ∷ ts) p.1) (lin m n of.One, ts) q e (lin_int h)
    times_sound n h (Some us) f e =
        let u = map_is (sign_by unit_of us) (λ u. (lin m n u.0, u.1)) q e in
        let w = sign_is unit_of us u.0 u.1 in
        let place : t ∷ ts ≡ t ∷ codes "*" ∷ w.0 ∷ u.0.1 = ap (λ (vs : Tokens). t ∷ vs) (after_is (codes "*") ts us f ∙ ap (λ (vs : Tokens). codes "*" ∷ vs) w.1) in
        subst (λ (p : LinPart × Tokens). IsLin m p.0 (t ∷ ts) p.1) u.2 (subst (λ (vs : Tokens). IsLin m (lin m n u.0.0) vs u.0.1) (sym place) (lin_times h w.2))

    by_word : (u : Option LinOf) (n : Option ℤ) → unit_of t ≡ u → int_of t ≡ n → lin_by m u n ts ≡ Some q → IsLin m q.0 (t ∷ ts) q.1
    by_word (Some u) n hu hn e = given (λ (p : LinPart × Tokens). IsLin m p.0 (t ∷ ts) p.1) (lin m (pos 1) u, ts) q e (lin_unit hu)
    by_word None None hu hn e = absurd (cc)
    by_word None (Some n) hu hn e = times_sound n hn (after (codes "*") ts) refl e

pub lin_shrink : (m : Bool) (p : LinPart) (ts us : Tokens) → IsLin m p ts us → length us < length ts
lin_shrink m p ts us (lin_int e) = omega arith
lin_shrink m p ts us (lin_unit e) = omega arith
lin_shrink m p ts us (lin_times e f) = omega arith

no_unit : (w : List ℕ) (n : ℤ) → int_of w ≡ Some n → unit_of w ≡ None
no_unit w n e = rw (other int_of w (codes "w") n e refl, other int_of w (codes "k") n e refl) refl

abbrev NoTimes : Tokens → Type 0
NoTimes us = after (codes "*") us ≡ None

pub lin_complete : (most : ℕ) (m : Bool) (p : LinPart) (ts us : Tokens) → length ts ≤ most → IsLin m p ts us → NoTimes us → lin_read m ts ≡ Some (p, us)
lin_complete most m p ts us b (lin_int {w = w} {n = n} e) f = rw (no_unit w n e, e) (rw f refl)
lin_complete most m p ts us b (lin_unit e) f = rw e refl
lin_complete most m p ts us b (lin_times {w = w} {n = n} e g) f = rw (no_unit w n e, e) (rw g refl)

no_times : (s : List ℕ) (n : Bool) (us : Tokens) → sum_sign s ≡ Some n → NoTimes (s ∷ us)
no_times s n us e = no_front sum_sign s (codes "*") n us e refl

-- ---- amounts
pub amount_sound : (most d : ℕ) (ts : Tokens) (q : Amount × Tokens) → exponent_read most d ts ≡ Some q → IsAmount d q.0 ts q.1
amount_sound most d [] q e = absurd (cc)
amount_sound most d (t ∷ ts) q e =
    ⊎_elim
    (λ (h : bytes_eq t (codes "(") ≡ true). subst (λ (w : List ℕ). IsAmount d q.0 (w ∷ ts) q.1) (sym ((bytes_eq-Decides t (codes "(")).0 h)) (linear_sound d (rw h at e)))
    (λ (h : bytes_eq t (codes "(") ≡ false).
    let p = map_is (plain_amount t) (λ a. (a, ts)) q (rw h at e) in
    subst (λ (x : Amount × Tokens). IsAmount d x.0 (t ∷ ts) x.1) p.2 (plain_word p.1))
    (cases_Bool (bytes_eq t (codes "(")))
  where
    linear_sound : (d : ℕ) → linear_at most d ts ≡ Some q → IsAmount d q.0 (codes "(" ∷ ts) q.1
    linear_sound zero e = absurd (cc)
    linear_sound (suc d) e =
        let p = then_is (signed_read lin_read most ts) (λ ps us. option_map (λ vs. (amount.Linear ps, vs)) (after (codes ")") us)) q e in
        let v = map_is (after (codes ")") p.0.1) (λ vs. (amount.Linear p.0.0, vs)) q p.2 in
        let parts : IsSum IsLin p.0.0 ts (codes ")" ∷ v.0) = subst (λ (us : Tokens). IsSum IsLin p.0.0 ts us) (after_is (codes ")") p.0.1 v.0 v.1) (signed_sound LinPart IsLin lin_read lin_sound most ts p.0 p.1) in
        subst (λ (x : Amount × Tokens). IsAmount (suc d) x.0 (codes "(" ∷ ts) x.1) v.2 (in_brackets parts)

pub amount_shrink : (d : ℕ) (k : Amount) (ts us : Tokens) → IsAmount d k ts us → length us < length ts
amount_shrink d k ts us (plain_word e) = omega arith
amount_shrink d k ts us (in_brackets {ps = ps} {ts = vs} i) = let less : length (codes ")" ∷ us) < length vs = sum_shrink LinPart IsLin lin_read lin_shrink ps vs (codes ")" ∷ us) i in omega (arith, less)

pub amount_complete : (d : ℕ) (k : Amount) (ts us : Tokens) → IsAmount d k ts us → (most : ℕ) → length ts ≤ most → exponent_read most d ts ≡ Some (k, us)
amount_complete d k ts us (plain_word {w = w} e) most h = rw (other plain_amount w (codes "(") k e refl) (rw e refl)
amount_complete d k ts us (in_brackets {ps = ps} {ts = vs} i) most h =
    rw (signed_complete LinPart IsLin lin_read NoTimes lin_shrink no_times most (lin_complete most) (λ us. refl) ps vs (codes ")" ∷ us) i refl refl (omega (arith, h)) most (omega (arith, h))) refl

-- ---- numbers
base_is : (ts us : Tokens) → behind_base ts ≡ Some us → ts ≡ codes "2" ∷ codes "^" ∷ us
base_is ts us e =
    let a = and_then_is (after (codes "2") ts) (after (codes "^")) us e in
    after_is (codes "2") ts a.0 a.1 ∙ ap (λ (vs : Tokens). codes "2" ∷ vs) (after_is (codes "^") a.0 us a.2)

times_is : (ts : Tokens) (p : ℤ × Tokens) → behind_times ts ≡ Some p → (w : List ℕ) × (ts ≡ w ∷ codes "*" ∷ p.1) × (int_of w ≡ Some p.0)
times_is [] p e = absurd (cc)
times_is (t ∷ ts) p e = at (int_of t) refl e
  where
    at : (o : Option ℤ) → int_of t ≡ o → times_at o ts ≡ Some p → (w : List ℕ) × (t ∷ ts ≡ w ∷ codes "*" ∷ p.1) × (int_of w ≡ Some p.0)
    at None h e = absurd (cc)
    at (Some n) h e =
        let m = map_is (after (codes "*") ts) (λ us. (n, us)) p e in
        (t, ap (λ (vs : Tokens). t ∷ vs) (after_is (codes "*") ts m.0 m.1) ∙ ap (λ (x : ℤ × Tokens). t ∷ codes "*" ∷ x.1) m.2, h ∙ ap (λ (x : ℤ × Tokens). Some x.0) m.2)

module _ (most d : ℕ) where
  power_sound : (m : Bool) (n : ℤ) (ts : Tokens) (q : NumberPart × Tokens) → power_read most d m n ts ≡ Some q → (k : Amount) × (q.0 ≡ part m (item.Power n k)) × IsAmount d k ts q.1
  power_sound m n ts q e =
      let p = then_is (exponent_read most d ts) (λ k us. Some (part m (item.Power n k), us)) q e in
      let same : (part m (item.Power n p.0.0), p.0.1) ≡ q = cc in
      (p.0.0, ap (λ (x : NumberPart × Tokens). x.0) (sym same), subst (λ (x : NumberPart × Tokens). IsAmount d p.0.0 ts x.1) same (amount_sound most d ts p.0 p.1))

  pub item_sound : (m : Bool) (ts : Tokens) (q : NumberPart × Tokens) → item_read most d m ts ≡ Some q → IsItem d m q.0 ts q.1
  item_sound m ts q e = by (behind_base ts) (behind_times ts) refl refl e
    where
      multiple : (p : ℤ × Tokens) → behind_times ts ≡ Some p → (o : Option Tokens) → behind_base p.1 ≡ o → multiple_by most d m p.0 o ≡ Some q → IsItem d m q.0 ts q.1
      multiple p h None g e = absurd (cc)
      multiple p h (Some us) g e =
          let w = times_is ts p h in
          let k = power_sound m p.0 us q e in
          let place : ts ≡ w.0 ∷ codes "*" ∷ codes "2" ∷ codes "^" ∷ us = w.1 ∙ ap (λ (vs : Tokens). w.0 ∷ codes "*" ∷ vs) (base_is p.1 us g) in
          rw (place, k.1) (item_times w.2 k.2)

      by : (a : Option Tokens) (b : Option (ℤ × Tokens)) → behind_base ts ≡ a → behind_times ts ≡ b → item_by most d m ts a b ≡ Some q → IsItem d m q.0 ts q.1
      by (Some us) b ha hb e = let k = power_sound m (pos 1) us q e in rw (base_is ts us ha, k.1) (item_power k.2)
      by None (Some p) ha hb e = multiple p hb (behind_base p.1) refl e
      by None None ha hb e =
          let i = map_is (sign_by plain_item ts) (λ i. (part m i.0, i.1)) q e in
          let w = sign_is plain_item ts i.0 i.1 in
          subst (λ (x : NumberPart × Tokens). IsItem d m x.0 ts x.1) i.2 (subst (λ (vs : Tokens). IsItem d m (part m i.0.0) vs i.0.1) (sym w.1) (item_word w.2))

pub item_shrink : (d : ℕ) (m : Bool) (p : NumberPart) (ts us : Tokens) → IsItem d m p ts us → length us < length ts
item_shrink d m p ts us (item_word e) = omega arith
item_shrink d m p ts us (item_power {k = k} {ts = vs} i) = let less : length us < length vs = amount_shrink d k vs us i in omega (arith, less)
item_shrink d m p ts us (item_times {k = k} {ts = vs} e i) = let less : length us < length vs = amount_shrink d k vs us i in omega (arith, less)

-- no part of a number goes on here
pub record EndsItem (us : Tokens) : Type 0 where
  pub times : after (codes "*") us ≡ None
  pub power : after (codes "^") us ≡ None

no_base : (w : List ℕ) (us : Tokens) → after (codes "^") us ≡ None → behind_base (w ∷ us) ≡ None
no_base w us f =
    ⊎_elim
    (λ (h : bytes_eq w (codes "2") ≡ true). rw h f)
    (λ (h : bytes_eq w (codes "2") ≡ false). rw h refl)
    (cases_Bool (bytes_eq w (codes "2")))

no_multiple : (n : Option ℤ) (us : Tokens) → after (codes "*") us ≡ None → times_at n us ≡ None
no_multiple None us f = refl
no_multiple (Some n) us f = rw f refl

pub item_complete : (d most : ℕ) (m : Bool) (p : NumberPart) (ts us : Tokens) → length ts ≤ most → IsItem d m p ts us → EndsItem us → item_read most d m ts ≡ Some (p, us)
item_complete d most m p ts us h (item_word {w = w} e) f = rw (no_base w us f.power) (rw (no_multiple (int_of w) us f.times) (rw e refl))
item_complete d most m p ts us h (item_power {k = k} {ts = vs} i) f = rw (amount_complete d k vs us i most (omega (arith, h))) refl
item_complete d most m p ts us h (item_times {w = w} {k = k} {ts = vs} e i) f =
    rw (no_base w (codes "*" ∷ codes "2" ∷ codes "^" ∷ vs) refl) (rw e (rw (amount_complete d k vs us i most (omega (arith, h))) refl))

ends_item : (s : List ℕ) (n : Bool) (us : Tokens) → sum_sign s ≡ Some n → EndsItem (s ∷ us)
ends_item s n us e = record { times = no_front sum_sign s (codes "*") n us e refl; power = no_front sum_sign s (codes "^") n us e refl }

pub number_sound : (most d : ℕ) (ts : Tokens) (q : Number × Tokens) → number_read most d ts ≡ Some q → IsNumber d q.0 ts q.1
number_sound most d ts q e =
    let p = then_is (signed_read (item_read most d) most ts) (λ ps us. Some (number_of ps, us)) q e in
    given (λ (x : Number × Tokens). IsNumber d x.0 ts x.1) (number_of p.0.0, p.0.1) q p.2 (signed_sound NumberPart (IsItem d) (item_read most d) (item_sound most d) most ts p.0 p.1)

pub number_shrink : (d : ℕ) (n : Number) (ts us : Tokens) → IsNumber d n ts us → length us < length ts
number_shrink d n ts us i = sum_shrink NumberPart (IsItem d) (item_read 0 d) (item_shrink d) n.parts ts us i

pub number_complete : (d : ℕ) (n : Number) (ts us : Tokens) → IsNumber d n ts us → EndsItem us → sign_by sum_sign us ≡ None → (most : ℕ) → length ts ≤ most → number_read most d ts ≡ Some (n, us)
number_complete d n ts us i f none most h =
    rw (signed_complete NumberPart (IsItem d) (item_read most d) EndsItem (item_shrink d) ends_item most (item_complete d most) (λ us. refl) n.parts ts us i f none h most h) refl
