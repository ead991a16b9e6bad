-- Where the variables' intervals lie in wider ones, the interval of a form exists where that by the wider ones does, and lies in it.
use Rattle.std.proofs.Common.{◌≡◌, refl, subst, ℕ, zero, suc, ◌^◌, ◌<◌, ℤ, ◌*ℤ◌, ◌≤ℤ◌, neg_ℤ, Bool, true, false, cond, List, [], ◌∷◌, Option, Some, arith}
use Rattle.std.specs.Prelude.{option_map, option_and_then, slice_get, int_lt, ◌&&◌}
use Rattle.std.specs.Int.{int_max, int_min}
use Rattle.std.specs.Int.Signed.{le_z}
use Rattle.std.proofs.lemmas.Int.{ints, clamps}
use Rattle.std.proofs.lemmas.Bool.{and_parts}
use Rattle.std.proofs.lemmas.Nat.{pow_pos}
use Rattle.pf_ints.specs.declared.lane.LaneType.{LaneType}
use Rattle.pf_ints.specs.Meaning.Ranges.{Range, IsRange, Includes, furthest, within, lies_in, lane_range, sum_range, difference_range, product_range, quotient_range, min_range, max_range, abs_range, join_range, choice_range, wrap_range, clamp_range}
use Rattle.pf_ints.proofs.RangeLaws.{within_some, holds_product, floor_div-le, clamped_rises, is_range_quotient, is_range_min, is_range_max, is_range_join, is_range_abs, is_range_lane, is_range_clamp}
use Rattle.pf_forms.specs.Meaning.Shapes.{Shape, Var, Num, Pow, Add, Sub, Mul, FloorDiv, Min, Max, Abs, Sel, Wrap, Sat}
use Rattle.pf_forms.specs.Meaning.Values.{G}
use Rattle.pf_forms.proofs.BoundLaws.{from_one, from_two}

-- r is an interval that lies in s
pub record Under (r s : Range) : Type 0 where
  pub kept : IsRange r
  pub low : s.lo ≤ℤ r.lo
  pub high : r.hi ≤ℤ s.hi

-- there is an interval, which lies in s
pub record Found (o : Option Range) (s : Range) : Type 0 where
  pub range : Range
  pub is : o ≡ Some range
  pub under : Under range s

-- place by place
abbrev pub AreUnder : List Range → List Range → Type 0
AreUnder [] [] = Unit {0}
AreUnder (r ∷ rs) (s ∷ ss) = Under r s × AreUnder rs ss
AreUnder [] (s ∷ ss) = ⊥
AreUnder (r ∷ rs) [] = ⊥

pub found_in : (o : Option Range) (s t : Range) → Found o s → t.lo ≤ℤ s.lo → s.hi ≤ℤ t.hi → Found o t
found_in o s t h low high = record {
  range = h.range;
  is = h.is;
  under = record { kept = h.under.kept; low = omega (arith, ints, h.under.low, low); high = omega (arith, ints, h.under.high, high) };
}

-- ---- tests
le_true : (a b : ℤ) → a ≤ℤ b → le_z a b ≡ true
le_true a b h = by_test (le_z a b) refl
  where
    by_test : (t : Bool) → le_z a b ≡ t → le_z a b ≡ true
    by_test true e = e
    by_test false e = absurd (omega (arith, ints, e, h))

both_true : (b c : Bool) → b ≡ true → c ≡ true → b && c ≡ true
both_true true c p q = q
both_true false c p q = absurd (cc)

pub lies_true : (a b : Range) → b.lo ≤ℤ a.lo → a.hi ≤ℤ b.hi → lies_in a b ≡ true
lies_true a b low high = both_true _ _ (le_true b.lo a.lo low) (le_true a.hi b.hi high)

pub lies_low : (a b : Range) → lies_in a b ≡ true → b.lo ≤ℤ a.lo
lies_low a b e = let p = and_parts (le_z b.lo a.lo) (le_z a.hi b.hi) e in omega (arith, ints, p.0)

pub lies_high : (a b : Range) → lies_in a b ≡ true → a.hi ≤ℤ b.hi
lies_high a b e = let p = and_parts (le_z b.lo a.lo) (le_z a.hi b.hi) e in omega (arith, ints, p.1)

-- what keeps the limits has an answer
pub within_kept : (r : Range) → IsRange r → within r ≡ Some r
unfolding within
within_kept r h =
    rw (le_true (neg_ℤ furthest) r.lo h.low, le_true r.lo r.hi h.ordered, le_true r.hi furthest h.high) refl

-- ---- one operation each
within_under : (wide narrow s : Range) → within wide ≡ Some s → narrow.lo ≤ℤ narrow.hi → wide.lo ≤ℤ narrow.lo → narrow.hi ≤ℤ wide.hi → Found (within narrow) s
within_under wide narrow s e ordered low high =
    let p = within_some wide s e in
    let kept : IsRange narrow = record { low = omega (arith, ints, p.0.low, low); ordered = ordered; high = omega (arith, ints, p.0.high, high) } in
    subst (Found (within narrow)) p.1 (record { range = narrow; is = within_kept narrow kept; under = record { kept = kept; low = low; high = high } })

one_found : (f : Range → Range) (o : Option Range) (a s : Range) → Found o a → f a ≡ s → ((r : Range) → Under r a → Under (f r) (f a)) → Found (option_map f o) s
one_found f o a s h e step = rw h.is (record { range = f h.range; is = refl; under = subst (Under (f h.range)) e (step h.range h.under) })

two_found : (f : Range → Range → Option Range) (o p : Option Range) (a b s : Range) → Found o a → Found p b → ((r t : Range) → Under r a → Under t b → Found (f r t) s) → Found (option_and_then (λ x. option_and_then (λ y. f x y) p) o) s
two_found f o p a b s h k step = rw (h.is, k.is) (step h.range k.range h.under k.under)

some_found : (r t s : Range) → ◌≡◌ {A = Option Range} (Some t) (Some s) → Under r t → Found (Some r) s
some_found r t s e h = let same : t ≡ s = cc in record { range = r; is = refl; under = subst (Under r) same h }

sum_under : (a b r t s : Range) → within (sum_range a b) ≡ Some s → Under r a → Under t b → Found (within (sum_range r t)) s
sum_under a b r t s e h k =
    within_under (sum_range a b) (sum_range r t) s e (omega (arith, ints, h.kept.ordered, k.kept.ordered)) (omega (arith, ints, h.low, k.low)) (omega (arith, ints, h.high, k.high))

difference_under : (a b r t s : Range) → within (difference_range a b) ≡ Some s → Under r a → Under t b → Found (within (difference_range r t)) s
difference_under a b r t s e h k =
    within_under (difference_range a b) (difference_range r t) s e (omega (arith, ints, h.kept.ordered, k.kept.ordered)) (omega (arith, ints, h.low, k.high)) (omega (arith, ints, h.high, k.low))

-- the least and the greatest of four numbers between two
ends_ordered : (a b c d : ℤ) → int_min (int_min a b) (int_min c d) ≤ℤ int_max (int_max a b) (int_max c d)
ends_ordered a b c d = omega (arith, ints, clamps)

ends_low : (l a b c d : ℤ) → l ≤ℤ a → l ≤ℤ b → l ≤ℤ c → l ≤ℤ d → l ≤ℤ int_min (int_min a b) (int_min c d)
ends_low l a b c d p q r s = omega (arith, ints, clamps, p, q, r, s)

ends_high : (h a b c d : ℤ) → a ≤ℤ h → b ≤ℤ h → c ≤ℤ h → d ≤ℤ h → int_max (int_max a b) (int_max c d) ≤ℤ h
ends_high h a b c d p q r s = omega (arith, ints, clamps, p, q, r, s)

low_end : (r a : Range) → Under r a → Includes a r.lo
low_end r a h = record { low = h.low; high = omega (arith, ints, h.kept.ordered, h.high) }

high_end : (r a : Range) → Under r a → Includes a r.hi
high_end r a h = record { low = omega (arith, ints, h.kept.ordered, h.low); high = h.high }

product_under : (a b r t s : Range) → within (product_range a b) ≡ Some s → Under r a → Under t b → Found (within (product_range r t)) s
product_under a b r t s e h k =
    let ll = holds_product a b r.lo t.lo (low_end r a h) (low_end t b k) in
    let hl = holds_product a b r.hi t.lo (high_end r a h) (low_end t b k) in
    let lh = holds_product a b r.lo t.hi (low_end r a h) (high_end t b k) in
    let hh = holds_product a b r.hi t.hi (high_end r a h) (high_end t b k) in
    within_under (product_range a b) (product_range r t) s e (ends_ordered (r.lo *ℤ t.lo) (r.hi *ℤ t.lo) (r.lo *ℤ t.hi) (r.hi *ℤ t.hi)) (ends_low _ _ _ _ _ ll.low hl.low lh.low hh.low) (ends_high _ _ _ _ _ ll.high hl.high lh.high hh.high)

quotient_under : (m : ℕ) → 0 < m → (a r : Range) → Under r a → Under (quotient_range r m) (quotient_range a m)
quotient_under m some a r h = record {
  kept = is_range_quotient r m some h.kept;
  low = floor_div-le m some a.lo r.lo h.low;
  high = floor_div-le m some r.hi a.hi h.high;
}

min_under : (a b r t : Range) → Under r a → Under t b → Under (min_range r t) (min_range a b)
min_under a b r t h k = record {
  kept = is_range_min r t h.kept k.kept;
  low = omega (arith, ints, clamps, h.low, k.low);
  high = omega (arith, ints, clamps, h.high, k.high);
}

max_under : (a b r t : Range) → Under r a → Under t b → Under (max_range r t) (max_range a b)
max_under a b r t h k = record {
  kept = is_range_max r t h.kept k.kept;
  low = omega (arith, ints, clamps, h.low, k.low);
  high = omega (arith, ints, clamps, h.high, k.high);
}

join_under : (a b r t : Range) → Under r a → Under t b → Under (join_range r t) (join_range a b)
join_under a b r t h k = record {
  kept = is_range_join r t h.kept k.kept;
  low = omega (arith, ints, clamps, h.low, k.low);
  high = omega (arith, ints, clamps, h.high, k.high);
}

abs_under : (a r : Range) → Under r a → Under (abs_range r) (abs_range a)
abs_under a r h = record {
  kept = is_range_abs r h.kept;
  low = omega (arith, ints, clamps, h.low, h.high);
  high = omega (arith, ints, clamps, h.low, h.high);
}

left_join : (a b r : Range) → Under r a → Under r (join_range a b)
left_join a b r h = record { kept = h.kept; low = omega (arith, ints, clamps, h.low); high = omega (arith, ints, clamps, h.high) }

right_join : (a b r : Range) → Under r b → Under r (join_range a b)
right_join a b r h = record { kept = h.kept; low = omega (arith, ints, clamps, h.low); high = omega (arith, ints, clamps, h.high) }

-- p, q, r, t lie in a, b, x, y
choice_under : (a b x y p q r t : Range) → Under p a → Under q b → Under r x → Under t y → Under (choice_range p q r t) (choice_range a b x y)
choice_under a b x y p q r t h i j k = by_tests (int_lt b.hi a.lo) (le_z a.hi b.lo) (int_lt q.hi p.lo) (le_z p.hi q.lo) refl refl refl refl
  where
    by_tests : (above below over under : Bool) → int_lt b.hi a.lo ≡ above → le_z a.hi b.lo ≡ below → int_lt q.hi p.lo ≡ over → le_z p.hi q.lo ≡ under →
        Under (cond over r (cond under t (join_range r t))) (cond above x (cond below y (join_range x y)))
    by_tests true below true under d e f g = j
    by_tests true below false under d e f g = absurd (omega (arith, ints, d, f, h.low, i.high))
    by_tests false true true under d e f g = absurd (omega (arith, ints, e, f, h.high, i.low, h.kept.ordered, i.kept.ordered))
    by_tests false true false true d e f g = k
    by_tests false true false false d e f g = absurd (omega (arith, ints, e, g, h.high, i.low))
    by_tests false false true under d e f g = left_join x y r j
    by_tests false false false true d e f g = right_join x y t k
    by_tests false false false false d e f g = join_under x y r t j k

wrap_under : (ty : LaneType) (a r : Range) → Under r a → Under (wrap_range ty r) (wrap_range ty a)
wrap_under ty a r h = by_tests (lies_in a (lane_range ty)) (lies_in r (lane_range ty)) refl refl
  where
    whole : Range
    whole = lane_range ty

    by_tests : (wide narrow : Bool) → lies_in a whole ≡ wide → lies_in r whole ≡ narrow → Under (cond narrow r whole) (cond wide a whole)
    by_tests true true d e = h
    by_tests true false d e =
        let lies = lies_true r whole (omega (arith, ints, lies_low a whole d, h.low)) (omega (arith, ints, lies_high a whole d, h.high)) in
        absurd (cc)
    by_tests false true d e = record { kept = h.kept; low = lies_low r whole e; high = lies_high r whole e }
    by_tests false false d e = record { kept = is_range_lane ty; low = omega (arith, ints); high = omega (arith, ints) }

clamp_under : (ty : LaneType) (a r : Range) → Under r a → Under (clamp_range ty r) (clamp_range ty a)
clamp_under ty a r h = record {
  kept = is_range_clamp ty r h.kept;
  low = clamped_rises ty a.lo r.lo h.low;
  high = clamped_rises ty r.hi a.hi h.high;
}

-- ---- any form
nth_under : (rs ss : List Range) (n : ℕ) (s : Range) → AreUnder rs ss → slice_get ss n ≡ Some s → Found (slice_get rs n) s
nth_under [] [] n s h e = absurd (cc)
nth_under [] (x ∷ ss) n s h e = absurd h
nth_under (r ∷ rs) [] n s h e = absurd h
nth_under (r ∷ rs) (x ∷ ss) zero s h e = some_found r x s e h.0
nth_under (r ∷ rs) (x ∷ ss) (suc n) s h e = nth_under rs ss n s h.1 e

self_under : (r s : Range) → within r ≡ Some s → Found (within r) s
self_under r s e =
    let p = within_some r s e in
    let under : Under r r = record { kept = p.0; low = omega (arith, ints); high = omega (arith, ints) } in
    subst (Found (within r)) p.1 (record { range = r; is = within_kept r p.0; under = under })

module _ (rs ss : List Range) (h : AreUnder rs ss) where
  pub narrowed : (f : Shape) (s : Range) → G ss f ≡ Some s → Found (G rs f) s
  narrowed (Var n) s e = nth_under rs ss n s h e
  narrowed (Num n) s e = self_under _ s e
  narrowed (Pow k) s e = self_under _ s e
  narrowed (Add x y) s e =
      let p = from_two _ (G ss x) (G ss y) s e in
      two_found _ _ _ p.0 p.1 s (narrowed x p.0 p.2) (narrowed y p.1 p.3) (λ r t i j. sum_under p.0 p.1 r t s p.4 i j)
  narrowed (Sub x y) s e =
      let p = from_two _ (G ss x) (G ss y) s e in
      two_found _ _ _ p.0 p.1 s (narrowed x p.0 p.2) (narrowed y p.1 p.3) (λ r t i j. difference_under p.0 p.1 r t s p.4 i j)
  narrowed (Mul x y) s e =
      let p = from_two _ (G ss x) (G ss y) s e in
      two_found _ _ _ p.0 p.1 s (narrowed x p.0 p.2) (narrowed y p.1 p.3) (λ r t i j. product_under p.0 p.1 r t s p.4 i j)
  narrowed (FloorDiv x k) s e =
      let p = from_one _ (G ss x) s e in
      one_found (λ r. quotient_range r (2 ^ k)) _ p.0 s (narrowed x p.0 p.1) p.2 (λ r i. quotient_under (2 ^ k) (pow_pos k) p.0 r i)
  narrowed (Min x y) s e =
      let p = from_two _ (G ss x) (G ss y) s e in
      two_found _ _ _ p.0 p.1 s (narrowed x p.0 p.2) (narrowed y p.1 p.3) (λ r t i j. some_found _ (min_range p.0 p.1) s p.4 (min_under p.0 p.1 r t i j))
  narrowed (Max x y) s e =
      let p = from_two _ (G ss x) (G ss y) s e in
      two_found _ _ _ p.0 p.1 s (narrowed x p.0 p.2) (narrowed y p.1 p.3) (λ r t i j. some_found _ (max_range p.0 p.1) s p.4 (max_under p.0 p.1 r t i j))
  narrowed (Abs x) s e =
      let p = from_one _ (G ss x) s e in
      one_found abs_range _ p.0 s (narrowed x p.0 p.1) p.2 (λ r i. abs_under p.0 r i)
  narrowed (Sel a b x y) s e =
      let p = from_two _ (G ss a) (G ss b) s e in
      let q = from_two _ (G ss x) (G ss y) s p.4 in
      two_found _ _ _ p.0 p.1 s (narrowed a p.0 p.2) (narrowed b p.1 p.3) (λ r t i j.
      two_found _ _ _ q.0 q.1 s (narrowed x q.0 q.2) (narrowed y q.1 q.3) (λ u v k l.
      some_found _ (choice_range p.0 p.1 q.0 q.1) s q.4 (choice_under p.0 p.1 q.0 q.1 r t u v i j k l)))
  narrowed (Wrap ty x) s e =
      let p = from_one _ (G ss x) s e in
      one_found (wrap_range ty) _ p.0 s (narrowed x p.0 p.1) p.2 (λ r i. wrap_under ty p.0 r i)
  narrowed (Sat ty x) s e =
      let p = from_one _ (G ss x) s e in
      one_found (clamp_range ty) _ p.0 s (narrowed x p.0 p.1) p.2 (λ r i. clamp_under ty p.0 r i)
