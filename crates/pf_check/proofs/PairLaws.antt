-- What holds over widths and shifts.
use Rattle.std.proofs.Common.{◌≡◌, refl, sym, ap, ◌∙◌, subst, ℕ, zero, suc, ◌+◌, ◌-◌, ◌≤◌, ℤ, pos, Bool, true, false, cond, Some, None, List, [], ◌∷◌, ◌++◌, length, map, drop, take, get_or, arith, append_assoc, Ok, Err}
use Rattle.std.specs.Prelude.{Option, Result, slice_get}
use Rattle.std.proofs.lemmas.List.{append-nil}
use Rattle.pf_ints.specs.declared.lane.LaneType.{LaneType}
use Rattle.pf_ints.specs.Meaning.Ranges.{Range, Includes}
use Rattle.pf_forms.specs.Meaning.Shapes.{Shape, Num, Wrap}
use Rattle.pf_forms.specs.Meaning.Equality.{same_type}
use Rattle.pf_forms.specs.Meaning.Values.{FVal, AreIn}
use Rattle.pf_forms.specs.Meaning.Equality.{same}
use Rattle.pf_forms.proofs.EqualityLaws.{same_true}
use Rattle.pf_rules.specs.declared.fault.SortFault.{SortFault}
use Rattle.pf_rules.specs.declared.rule.Kind.{Kind}
use Rattle.pf_rules.specs.declared.rule.RuleParts.{RuleParts}
use Rattle.pf_rules.specs.declared.rule.VarDecl.{VarDecl}
use Rattle.pf_rules.specs.declared.shifts.Pair.{Pair}
use Rattle.pf_rules.specs.Meaning.Sorts.{sorting}
use Rattle.pf_rules.specs.Meaning.Sides.{form_at, PVal}
use Rattle.pf_rules.specs.Meaning.Rules.{range_at, AreInside}
use Rattle.pf_rules.proofs.SideLaws.{sided_of}
use Rattle.pf_check.specs.declared.fault.RuleFault.{RuleFault}
use Rattle.pf_check.specs.Meaning.Orders.{this_or, first_some, onward, fault_in}
use Rattle.pf_check.specs.Meaning.Faults.{Fault, Tells}
use Rattle.pf_check.specs.Meaning.Faults as fault
use Rattle.pf_check.specs.Meaning.Checks.{at_pair, HasOneType, two_types, types_fault, ranged, with_range, ranges_from}
use Rattle.pf_check.specs.Steps.Pairs.{onto, MakesRanges, AllTyped}
use Rattle.pf_check.proofs.StepLaws.{tells_none}

-- ---- ranges

pub onto_none : (xs : List Range) → onto xs (Ok []) ≡ Ok xs
onto_none xs = ap Ok (append-nil xs)

pub onto_with : (xs : List Range) (s : Range) (r : Result (List Range) Fault) → onto xs (with_range s r) ≡ onto (xs ++ s ∷ []) r
onto_with xs s (Ok rs) = ap Ok (sym (append_assoc xs (s ∷ []) rs))
onto_with xs s (Err e) = refl

take_whole : (ds : List VarDecl) → take (length ds) ds ≡ ds
take_whole [] = refl
take_whole (d ∷ ds) = ap (λ es. d ∷ es) (take_whole ds)

behind_first : (n : ℕ) → suc n - 1 ≡ n
behind_first n = omega arith

pub ranges_step : (p : Pair) (n : ℕ) (ds : List VarDecl) (d : VarDecl) (s : Range) (xs ys : List Range) (r : Result (List Range) RuleFault) → 1 ≤ length ds → d ≡ get_or ds 0 d → range_at p.w p.k d ≡ Some s → ys ≡ xs ++ s ∷ []
    → MakesRanges r (onto ys (ranges_from p (n + 1) (take (length ds - 1) (drop 1 ds))))
    → MakesRanges r (onto xs (ranges_from p n ds))
ranges_step p n [] d s xs ys r some is has longer h = absurd (omega (arith, some))
ranges_step p n (a ∷ ds) d s xs ys r some is has longer h =
    subst (λ o. MakesRanges r (onto xs (ranged p n o (ranges_from p (n + 1) ds)))) (sym (ap (range_at p.w p.k) (sym is) ∙ has))
    (subst (MakesRanges r) (sym (onto_with xs s (ranges_from p (n + 1) ds))) (subst (λ zs. MakesRanges r (onto zs (ranges_from p (n + 1) ds))) longer
    (subst (λ es. MakesRanges r (onto ys (ranges_from p (n + 1) es))) (ap (λ k. take k ds) (behind_first (length ds)) ∙ take_whole ds) h)))

pub record AreRanges (p : Pair) (ds : List VarDecl) (rs : List Range) : Type 0 where
  pub alike : length rs ≡ length ds
  pub inside : (u : ℕ → ℤ) → ((n : ℕ) (d : VarDecl) (s : Range) → slice_get ds n ≡ Some d → range_at p.w p.k d ≡ Some s → Includes s (u n)) → AreIn rs u

module _ (p : Pair) where
  abbrev at_place : VarDecl → Option Range
  at_place = range_at p.w p.k

  pub ranges_are : (n : ℕ) (ds : List VarDecl) (rs : List Range) → ranges_from p n ds ≡ Ok rs → map at_place ds ≡ map Some rs
  ranges_are n [] [] e = refl
  ranges_are n [] (r ∷ rs) e = absurd (cc)
  ranges_are n (d ∷ ds) rs e = by_first (λ ts b. ranges_are (n + 1) ds ts b) (at_place d) (ranges_from p (n + 1) ds) refl refl e
    where
      by_first : ((ts : List Range) → ranges_from p (n + 1) ds ≡ Ok ts → map at_place ds ≡ map Some ts) → (o : Option Range) (q : Result (List Range) Fault) → at_place d ≡ o → ranges_from p (n + 1) ds ≡ q → ranged p n o q ≡ Ok rs → map at_place (d ∷ ds) ≡ map Some rs
      by_first later None q a b u = absurd (cc)
      by_first later (Some s) (Err x) a b u = absurd (cc)
      by_first later (Some s) (Ok ts) a b u =
          let is : s ∷ ts ≡ rs = cc in
          ap (λ o. o ∷ map at_place ds) a ∙ ap (λ xs. Some s ∷ xs) (later ts b) ∙ ap (map Some) is

  pub ranges_only : (n : ℕ) (ds : List VarDecl) (rs : List Range) → map at_place ds ≡ map Some rs → ranges_from p n ds ≡ Ok rs
  ranges_only n [] [] e = refl
  ranges_only n [] (r ∷ rs) e = absurd (cc)
  ranges_only n (d ∷ ds) [] e = absurd (cc)
  ranges_only n (d ∷ ds) (r ∷ rs) e =
      let a : at_place d ≡ Some r = cc in
      let b : map at_place ds ≡ map Some rs = cc in
      ap (λ o. ranged p n o (ranges_from p (n + 1) ds)) a ∙ ap (with_range r) (ranges_only (n + 1) ds rs b)

  pub has_range : (ds : List VarDecl) (rs : List Range) → map at_place ds ≡ map Some rs → (m : ℕ) (c : VarDecl) → slice_get ds m ≡ Some c → (t : Range) × (at_place c ≡ Some t)
  has_range [] rs e m c f = absurd (cc)
  has_range (d ∷ ds) [] e m c f = absurd (cc)
  has_range (d ∷ ds) (r ∷ rs) e zero c f = (r, let a : at_place d ≡ Some r = cc in let is : d ≡ c = cc in subst (λ y. at_place y ≡ Some r) is a)
  has_range (d ∷ ds) (r ∷ rs) e (suc m) c f = has_range ds rs (cc) m c f

  of_ranges : (ds : List VarDecl) (rs : List Range) → map at_place ds ≡ map Some rs → AreRanges p ds rs
  of_ranges [] [] e = record { alike = refl; inside = λ u h m t f. absurd (cc) }
  of_ranges [] (r ∷ rs) e = absurd (cc)
  of_ranges (d ∷ ds) [] e = absurd (cc)
  of_ranges (d ∷ ds) (r ∷ rs) e =
      let rest = of_ranges ds rs (cc) in
      record { alike = ap suc rest.alike; inside = λ u h m t f. each rest u h m t f }
    where
      each : AreRanges p ds rs → (u : ℕ → ℤ) → ((m : ℕ) (c : VarDecl) (t : Range) → slice_get (d ∷ ds) m ≡ Some c → at_place c ≡ Some t → Includes t (u m))
          → (m : ℕ) (t : Range) → slice_get (r ∷ rs) m ≡ Some t → Includes t (u m)
      each rest u h zero t f = let is : r ≡ t = cc in subst (λ y. Includes y (u 0)) is (h 0 d r refl (cc))
      each rest u h (suc m) t f = rest.inside (λ i. u (suc i)) (λ i c y g k. h (suc i) c y g k) m t f

pub are_ranges : (p : Pair) (n : ℕ) (ds : List VarDecl) (rs : List Range) → ranges_from p n ds ≡ Ok rs → AreRanges p ds rs
are_ranges p n ds rs e = of_ranges p ds rs (ranges_are p n ds rs e)

-- ---- types

type_same : (t u : LaneType) → same_type t u ≡ true → t ≡ u
type_same t u d =
    let e : same (Wrap t (Num (pos 0))) (Wrap u (Num (pos 0))) ≡ true = rw d refl in
    let w : Wrap t (Num (pos 0)) ≡ Wrap u (Num (pos 0)) = same_true (Wrap t (Num (pos 0))) (Wrap u (Num (pos 0))) e in
    cc

one_by : (t u : LaneType) (s : Bool) → same_type t u ≡ s → cond s None (Some (fault.Types false [])) ≡ None → (x : LaneType) × (◌≡◌ {A = Result LaneType SortFault} (Ok t) (Ok x)) × (◌≡◌ {A = Result LaneType SortFault} (Ok u) (Ok x))
one_by t u true d g = (t, refl, ap Ok (sym (type_same t u d)))
one_by t u false d g = absurd (cc)

one_type : (a b : Result LaneType SortFault) → two_types a b ≡ None → (t : LaneType) × (a ≡ Ok t) × (b ≡ Ok t)
one_type (Err e) b h = absurd (cc)
one_type (Ok t) (Err e) h = absurd (cc)
one_type (Ok t) (Ok u) h = one_by t u (same_type t u) refl h

pub has_one_type : (amounts : Bool) (kind : Kind) (r : RuleParts) (p : Pair) → types_fault amounts kind r p ≡ None → HasOneType amounts kind r p
has_one_type amounts kind r p e =
    let t = one_type (sorting amounts kind (at_pair r p) r.lhs) (sorting amounts kind (at_pair r p) r.rhs) e in
    record { ty = t.0; left = t.1; right = t.2 }

pub first_none : {A : Type 0} (o p : Option A) → this_or o p ≡ None → (o ≡ None) × (p ≡ None)
first_none None p e = (refl, e)
first_none (Some x) p e = absurd (cc)

pub all_typed : (kind : Kind) (r : RuleParts) (ps : List Pair) → first_some (map (types_fault true kind r) ps) ≡ None → AllTyped kind r ps
all_typed kind r [] e = tt
all_typed kind r (p ∷ ps) e =
    let h = first_none (types_fault true kind r p) (first_some (map (types_fault true kind r) ps)) e in
    (has_one_type true kind r p h.0, all_typed kind r ps h.1)

-- ---- sides

pub onward_told : {A : Type 0} (e : RuleFault) (r : Result A Fault) (rest : A → Option Fault) → Tells e (fault_in r) → Tells e (onward r rest)
onward_told e (Ok x) rest h = tells_none e _ h
onward_told e (Err d) rest h = h

-- forms of one value are of sides of one value
pub sides_hold : (kind : Kind) (r : RuleParts) (p : Pair) (ranges : List Range) (f g : Shape) → HasOneType true kind r p → ranges_from p 0 r.vars ≡ Ok ranges
    → f ≡ form_at (at_pair r p) r.lhs
    → g ≡ form_at (at_pair r p) r.rhs
    → ((v : ℕ → ℤ) → AreIn ranges v → FVal v f ≡ FVal v g)
    → (v : ℕ → ℤ) → AreInside (at_pair r p) v → PVal (at_pair r p) v r.lhs ≡ PVal (at_pair r p) v r.rhs
sides_hold kind r p ranges f g typed is left right meet v inside =
    let at = at_pair r p in
    let l = sided_of at r.lhs (record { kind = kind; ty = typed.ty; sorted = typed.left }) in
    let m = sided_of at r.rhs (record { kind = kind; ty = typed.ty; sorted = typed.right }) in
    sym (l.value v) ∙ sym (ap (FVal v) left) ∙ meet v ((are_ranges p 0 r.vars ranges is).inside v inside) ∙ ap (FVal v) right ∙ m.value v
