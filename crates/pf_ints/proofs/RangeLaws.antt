-- The intervals that the calls compute are the least of all results.
use Rattle.std.proofs.Common.{◌≡◌, refl, sym, ap, ◌∙◌, subst, ℕ, suc, ◌+◌, ◌/◌, ◌≤◌, ◌<◌, ℤ, pos, negsuc, ◌+ℤ◌, ◌-ℤ◌, ◌*ℤ◌, ◌≤ℤ◌, neg_ℤ, arith, Bool, true, false, cond, Option, Some, None, FitsSigned, inl, inr, ◌⊎◌}
use Rattle.std.specs.Prelude.{int_lt, unsigned_abs, ◌&&◌}
use Rattle.std.specs.Int.{w128, int_div_euclid, int_max, int_min}
use Rattle.std.specs.Int.Signed.{le_z}
use Rattle.std.proofs.lemmas.Int.{ints, clamps}
use Rattle.std.proofs.Math.IntN.{*ℤ_comm}
use Rattle.std.proofs.Math.Nat.{mul-le-mul_left, div-mul-le_self, div-le_self}
use Rattle.std.proofs.lemmas.Nat.{le-div}
use borrow.Author.Differences.{up, down}
use Rattle.pf_ints.specs.declared.lane.LaneType.{LaneType}
use Rattle.pf_ints.specs.declared.lane.Bits.{Bits}
use Rattle.pf_ints.specs.declared.lane.Bits.TheVariants.{Eight, Sixteen, ThirtyTwo}
use Rattle.pf_ints.specs.Meaning.Whole.{floor_div}
use Rattle.pf_ints.specs.Meaning.Lanes.{clamped}
use Rattle.pf_ints.specs.Meaning.Ranges.{Range, IsRange, Includes, IsLeast, IsLeastWithin, IsImage, IsJointImage, furthest, range, within, sum_range, difference_range, product_range, quotient_range, min_range, max_range, abs_range, join_range, lies_in, lane_range, clamp_range}
use Rattle.pf_ints.proofs.LaneLaws.{nearest}

pub same_range : (r s : Range) → r.lo ≡ s.lo → r.hi ≡ s.hi → r ≡ s
same_range r s p q = ap (λ (l : ℤ). range l r.hi) p ∙ ap (λ (h : ℤ). range s.lo h) q

both : (b c : Bool) → b && c ≡ true → (b ≡ true) × (c ≡ true)
both true true e = (refl, refl)
both true false e = absurd (cc)
both false c e = absurd (cc)

some_if : (b : Bool) (x y : Range) → cond b (Some x) None ≡ Some y → (b ≡ true) × (x ≡ y)
some_if true x y e = (refl, cc)
some_if false x y e = absurd (cc)

-- what keeps the limits is the interval itself, and one
pub within_some : (s r : Range) → within s ≡ Some r → IsRange s × (s ≡ r)
unfolding within
within_some s r e =
    let p = some_if _ s r e in
    let q = both (le_z (neg_ℤ furthest) s.lo) (le_z s.lo s.hi && le_z s.hi furthest) p.0 in
    let u = both (le_z s.lo s.hi) (le_z s.hi furthest) q.1 in
    (record { low = omega (arith, ints, q.0); ordered = omega (arith, ints, u.0); high = omega (arith, ints, u.1) }, p.1)

-- what is no interval has no answer
pub within_none : (s : Range) → (IsRange s → ⊥) → within s ≡ None
within_none s wide = by_case (within s) refl
  where
    by_case : (o : Option Range) → within s ≡ o → o ≡ None
    by_case None e = refl
    by_case (Some r) e = absurd (wide (within_some s r e).0)

-- the answer of a call that makes an interval of the bounds of the least one
pub answered : (is_member : ℤ → Type 0) (r : Range) (low high : ℤ) (answer : Option Range) → IsLeast is_member r → answer ≡ within (range low high) → low ≡ r.lo → high ≡ r.hi → IsLeastWithin is_member answer × (answer ≡ within r)
answered is_member r low high answer smallest e p q =
    let kept : answer ≡ within r = e ∙ ap within (same_range (range low high) r p q) in
    (record { whole = r; least = smallest; kept = kept }, kept)

-- the same at an interval whose bounds are those of the other
pub least_at : (is_member : ℤ → Type 0) (r s : Range) → IsLeast is_member r → s.lo ≡ r.lo → s.hi ≡ r.hi → IsLeast is_member s
least_at is_member r s smallest p q = subst (IsLeast is_member) (sym (same_range s r p q)) smallest

pub is_range_at : (r s : Range) → IsRange r → s.lo ≡ r.lo → s.hi ≡ r.hi → IsRange s
is_range_at r s kept p q = subst IsRange (sym (same_range s r p q)) kept

pub at_low : (a : Range) → IsRange a → Includes a a.lo
at_low a p = record { low = omega (arith, ints); high = p.ordered }

pub at_high : (a : Range) → IsRange a → Includes a a.hi
at_high a p = record { low = p.ordered; high = omega (arith, ints) }

-- ---- operations that never fall where their operands rise
pub rising_image : (f : ℤ → ℤ) → ((x y : ℤ) → x ≤ℤ y → f x ≤ℤ f y) → (a : Range) → IsRange a → IsLeast (IsImage f a) (range (f a.lo) (f a.hi))
rising_image f rises a p = record {
  all = λ n m. subst (Includes (range (f a.lo) (f a.hi))) m.is (record { low = rises a.lo m.of m.inside.low; high = rises m.of a.hi m.inside.high });
  low_met = record { of = a.lo; inside = at_low a p; is = refl };
  high_met = record { of = a.hi; inside = at_high a p; is = refl };
}

pub rising_joint : (f : ℤ → ℤ → ℤ) → ((x y u v : ℤ) → x ≤ℤ u → y ≤ℤ v → f x y ≤ℤ f u v) → (a b : Range) → IsRange a → IsRange b → IsLeast (IsJointImage f a b) (range (f a.lo b.lo) (f a.hi b.hi))
rising_joint f rises a b p q = record {
  all = λ n m.
      subst (Includes (range (f a.lo b.lo) (f a.hi b.hi))) m.is
      (record { low = rises a.lo b.lo m.left m.right m.in_left.low m.in_right.low; high = rises m.left m.right a.hi b.hi m.in_left.high m.in_right.high });
  low_met = record { left = a.lo; right = b.lo; in_left = at_low a p; in_right = at_low b q; is = refl };
  high_met = record { left = a.hi; right = b.hi; in_left = at_high a p; in_right = at_high b q; is = refl };
}

pub least_sum : (a b : Range) → IsRange a → IsRange b → IsLeast (IsJointImage (λ x y. x +ℤ y) a b) (sum_range a b)
least_sum = rising_joint (λ x y. x +ℤ y) (λ x y u v h k. omega (arith, ints, h, k))

pub least_min : (a b : Range) → IsRange a → IsRange b → IsLeast (IsJointImage int_min a b) (min_range a b)
least_min = rising_joint int_min (λ x y u v h k. omega (arith, ints, clamps, h, k))

pub least_max : (a b : Range) → IsRange a → IsRange b → IsLeast (IsJointImage int_max a b) (max_range a b)
least_max = rising_joint int_max (λ x y u v h k. omega (arith, ints, clamps, h, k))

pub least_difference : (a b : Range) → IsRange a → IsRange b → IsLeast (IsJointImage (λ x y. x -ℤ y) a b) (difference_range a b)
least_difference a b p q = record {
  all = λ n m. record { low = omega (arith, ints, m.in_left.low, m.in_right.high, m.is); high = omega (arith, ints, m.in_left.high, m.in_right.low, m.is) };
  low_met = record { left = a.lo; right = b.hi; in_left = at_low a p; in_right = at_high b q; is = refl };
  high_met = record { left = a.hi; right = b.lo; in_left = at_high a p; in_right = at_low b q; is = refl };
}

pub clamped_rises : (t : LaneType) (x y : ℤ) → x ≤ℤ y → clamped t x ≤ℤ clamped t y
unfolding clamped
clamped_rises t x y h = omega (arith, ints, clamps, h)

pub least_clamp : (t : LaneType) (a : Range) → IsRange a → IsLeast (IsImage (λ n. clamped t n) a) (clamp_range t a)
least_clamp t = rising_image (λ n. clamped t n) (clamped_rises t)

-- ---- distances from 0
pub distance_is : (x : ℤ) → pos (unsigned_abs x) ≡ int_max x (neg_ℤ x)
distance_is (pos n) = omega (arith, ints, clamps)
distance_is (negsuc n) = omega (arith, ints, clamps)

pub least_abs : (a : Range) → IsRange a → IsLeast (IsImage (λ x. pos (unsigned_abs x)) a) (abs_range a)
least_abs a p = record {
  all = λ n m.
      (let is : n ≡ int_max m.of (neg_ℤ m.of) = sym m.is ∙ distance_is m.of in
      record { low = omega (arith, ints, clamps, is, m.inside.low, m.inside.high); high = omega (arith, ints, clamps, is, m.inside.low, m.inside.high) });
  low_met = record {
    of = nearest_in;
    inside = record { low = omega (arith, ints, clamps, p.ordered); high = omega (arith, ints, clamps, p.ordered) };
    is = distance_is nearest_in ∙ omega (arith, ints, clamps, p.ordered);
  };
  high_met = further (int_lt (neg_ℤ a.lo) a.hi) refl;
}
  where
    nearest_in : ℤ
    nearest_in = int_max a.lo (int_min a.hi (pos 0))

    further : (b : Bool) → int_lt (neg_ℤ a.lo) a.hi ≡ b → IsImage (λ x. pos (unsigned_abs x)) a (abs_range a).hi
    further true e = record { of = a.hi; inside = at_high a p; is = distance_is a.hi ∙ omega (arith, ints, clamps, e, p.ordered) }
    further false e = record { of = a.lo; inside = at_low a p; is = distance_is a.lo ∙ omega (arith, ints, clamps, e, p.ordered) }

-- ---- the interval round two others
pub least_join : (a b : Range) → IsRange a → IsRange b → IsLeast (λ n. Includes a n ⊎ Includes b n) (join_range a b)
least_join a b p q = record {
  all = λ n m. elim m [
    | inl h ↦ record { low = omega (arith, ints, clamps, h.low); high = omega (arith, ints, clamps, h.high) }
    | inr h ↦ record { low = omega (arith, ints, clamps, h.low); high = omega (arith, ints, clamps, h.high) }
  ];
  low_met = lower (int_lt b.lo a.lo);
  high_met = upper (int_lt b.hi a.hi);
}
  where
    lower : (t : Bool) → Includes a (cond t b.lo a.lo) ⊎ Includes b (cond t b.lo a.lo)
    lower true = inr (at_low b q)
    lower false = inl (at_low a p)

    upper : (t : Bool) → Includes a (cond t a.hi b.hi) ⊎ Includes b (cond t a.hi b.hi)
    upper true = inl (at_high a p)
    upper false = inr (at_high b q)

-- ---- products
times_pos : (n : ℕ) (a b : ℤ) → a ≤ℤ b → (pos n *ℤ a) ≤ℤ (pos n *ℤ b)
times_pos n a b h = let k : up a + down b ≤ up b + down a = omega (arith, ints) in omega (arith, ints, mul-le-mul_left n k)

times_negsuc : (n : ℕ) (a b : ℤ) → a ≤ℤ b → (negsuc n *ℤ b) ≤ℤ (negsuc n *ℤ a)
times_negsuc n a b h = let k : up a + down b ≤ up b + down a = omega (arith, ints) in omega (arith, ints, mul-le-mul_left (suc n) k)

-- n lies between v and w, in one order or the other
record IsBetween (v w n : ℤ) : Type 0 where
  low : int_min v w ≤ℤ n
  high : n ≤ℤ int_max v w

-- a product by a fixed number lies between the products at the ends
between : (c : ℤ) (b : Range) (y : ℤ) → Includes b y → IsBetween (c *ℤ b.lo) (c *ℤ b.hi) (c *ℤ y)
between (pos n) b y h =
    let p = times_pos n b.lo y h.low in
    let q = times_pos n y b.hi h.high in
    record { low = omega (arith, ints, clamps, p, q); high = omega (arith, ints, clamps, p, q) }
between (negsuc n) b y h =
    let p = times_negsuc n b.lo y h.low in
    let q = times_negsuc n y b.hi h.high in
    record { low = omega (arith, ints, clamps, p, q); high = omega (arith, ints, clamps, p, q) }

between_left : (c : ℤ) (a : Range) (x : ℤ) → Includes a x → IsBetween (a.lo *ℤ c) (a.hi *ℤ c) (x *ℤ c)
between_left c a x h = rw (*ℤ_comm a.lo c, *ℤ_comm a.hi c, *ℤ_comm x c) (between c a x h)

-- what is between two numbers, each of which is between two others, is between all four
among : (n v w ll hl lh hh : ℤ) → IsBetween v w n → IsBetween ll hl v → IsBetween lh hh w → Includes (range (int_min (int_min ll hl) (int_min lh hh)) (int_max (int_max ll hl) (int_max lh hh))) n
among n v w ll hl lh hh p q r = record {
  low = omega (arith, ints, clamps, p.low, q.low, r.low);
  high = omega (arith, ints, clamps, p.high, q.high, r.high);
}

module _ (is_member : ℤ → Type 0) where
  member_min : (v w : ℤ) → is_member v → is_member w → is_member (int_min v w)
  member_min v w p q = elim (int_lt w v) as (λ (t : Bool). is_member (cond t w v)) [ true ↦ q | false ↦ p ]

  member_max : (v w : ℤ) → is_member v → is_member w → is_member (int_max v w)
  member_max v w p q = elim (int_lt w v) as (λ (t : Bool). is_member (cond t v w)) [ true ↦ p | false ↦ q ]

  least_of_four : (ll hl lh hh : ℤ) → is_member ll → is_member hl → is_member lh → is_member hh → is_member (int_min (int_min ll hl) (int_min lh hh))
  least_of_four ll hl lh hh p q r s = member_min _ _ (member_min ll hl p q) (member_min lh hh r s)

  greatest_of_four : (ll hl lh hh : ℤ) → is_member ll → is_member hl → is_member lh → is_member hh → is_member (int_max (int_max ll hl) (int_max lh hh))
  greatest_of_four ll hl lh hh p q r s = member_max _ _ (member_max ll hl p q) (member_max lh hh r s)

-- a product lies between the least and the greatest of two ends
pub holds_product : (a b : Range) (x y : ℤ) → Includes a x → Includes b y → Includes (product_range a b) (x *ℤ y)
holds_product a b x y h k = among _ _ _ _ _ _ _ (between x b y k) (between_left b.lo a x h) (between_left b.hi a x h)

pub least_product : (a b : Range) → IsRange a → IsRange b → IsLeast (IsJointImage (λ x y. x *ℤ y) a b) (product_range a b)
least_product a b p q = record {
  all = λ n m. subst (Includes (product_range a b)) m.is (holds_product a b m.left m.right m.in_left m.in_right);
  low_met = least_of_four is_product _ _ _ _ (corner _ _ (at_low a p) (at_low b q)) (corner _ _ (at_high a p) (at_low b q)) (corner _ _ (at_low a p) (at_high b q)) (corner _ _ (at_high a p) (at_high b q));
  high_met = greatest_of_four is_product _ _ _ _ (corner _ _ (at_low a p) (at_low b q)) (corner _ _ (at_high a p) (at_low b q)) (corner _ _ (at_low a p) (at_high b q)) (corner _ _ (at_high a p) (at_high b q));
}
  where
    is_product : ℤ → Type 0
    is_product = IsJointImage (λ x y. x *ℤ y) a b

    corner : (x y : ℤ) → Includes a x → Includes b y → is_product (x *ℤ y)
    corner x y h k = record { left = x; right = y; in_left = h; in_right = k; is = refl }

-- a corner that fits no i128 leaves the limits. The code has its factors as v and w
pub no_product : (a b : Range) (x y v w : ℤ) → IsRange a → IsRange b → Includes a x → Includes b y → v ≡ x → w ≡ y → (FitsSigned w128 (v *ℤ w) → ⊥) → within (product_range a b) ≡ None
no_product a b x y v w p q h k e d wide =
    within_none (product_range a b)
    (λ r.
    (let at = (least_product a b p q).all (x *ℤ y) (record { left = x; right = y; in_left = h; in_right = k; is = refl }) in
    let same : v *ℤ w ≡ x *ℤ y = cc in
    wide (omega (arith, ints, at.low, at.high, r.low, r.high, same))))

-- ---- quotients
div-le : (a b m : ℕ) → 0 < m → a ≤ b → a / m ≤ b / m
div-le a b m some h = le-div (a / m) b m some (omega (arith, div-mul-le_self a m))

pub floor_div-le : (m : ℕ) → 0 < m → (a b : ℤ) → a ≤ℤ b → floor_div a m ≤ℤ floor_div b m
floor_div-le m some (pos a) (pos b) h = let k : a ≤ b = omega (arith, ints) in omega (arith, ints, div-le a b m some k)
floor_div-le m some (pos a) (negsuc b) h = absurd (omega (arith, ints))
floor_div-le m some (negsuc a) (pos b) h = omega (arith, ints)
floor_div-le m some (negsuc a) (negsuc b) h = let k : b ≤ a = omega (arith, ints) in omega (arith, ints, div-le b a m some k)

-- a quotient lies between 0 or -1 and the number, so it keeps the limits
floor_div_near : (m : ℕ) → 0 < m → (a : ℤ) → (int_min a (negsuc 0) ≤ℤ floor_div a m) × (floor_div a m ≤ℤ int_max a (pos 0))
floor_div_near m some (pos a) = (omega (arith, ints, clamps), omega (arith, ints, clamps, div-le_self a m))
floor_div_near m some (negsuc a) = (omega (arith, ints, clamps, div-le_self a m), omega (arith, ints, clamps))

pub is_range_quotient : (a : Range) (m : ℕ) → 0 < m → IsRange a → IsRange (quotient_range a m)
is_range_quotient a m some p = record {
  low = omega (arith, ints, clamps, floor_div_near m some a.lo, p.low);
  ordered = floor_div-le m some a.lo a.hi p.ordered;
  high = omega (arith, ints, clamps, floor_div_near m some a.hi, p.high);
}

pub least_quotient : (a : Range) (m : ℕ) → 0 < m → IsRange a → IsLeast (IsImage (λ x. floor_div x m) a) (quotient_range a m)
least_quotient a m some p = rising_image (λ x. floor_div x m) (floor_div-le m some) a p

div_euclid_by : (a : ℤ) (m : ℕ) → int_div_euclid a (pos m) ≡ floor_div a m
div_euclid_by (pos a) m = refl
div_euclid_by (negsuc a) m = refl

-- what `div_euclid` gives
pub div_euclid_is : (a d : ℤ) → pos 1 ≤ℤ d → int_div_euclid a d ≡ floor_div a (unsigned_abs d)
div_euclid_is a (pos m) h = div_euclid_by a m
div_euclid_is a (negsuc m) h = absurd (omega (arith, ints))

-- ---- intervals whose bounds are bounds of others
pub is_range_min : (a b : Range) → IsRange a → IsRange b → IsRange (min_range a b)
is_range_min a b p q = record {
  low = omega (arith, ints, clamps, p.low, q.low);
  ordered = omega (arith, ints, clamps, p.ordered, q.ordered);
  high = omega (arith, ints, clamps, p.high, q.high);
}

pub is_range_max : (a b : Range) → IsRange a → IsRange b → IsRange (max_range a b)
is_range_max a b p q = record {
  low = omega (arith, ints, clamps, p.low, q.low);
  ordered = omega (arith, ints, clamps, p.ordered, q.ordered);
  high = omega (arith, ints, clamps, p.high, q.high);
}

pub is_range_join : (a b : Range) → IsRange a → IsRange b → IsRange (join_range a b)
is_range_join a b p q = record {
  low = omega (arith, ints, clamps, p.low, q.low);
  ordered = omega (arith, ints, clamps, p.ordered, q.ordered);
  high = omega (arith, ints, clamps, p.high, q.high);
}

pub is_range_abs : (a : Range) → IsRange a → IsRange (abs_range a)
is_range_abs a p = record {
  low = omega (arith, ints, clamps, p.low);
  ordered = omega (arith, ints, clamps, p.ordered);
  high = omega (arith, ints, clamps, p.low, p.ordered, p.high);
}

-- every member of a lane type is near 0
near_by : (signed : Bool) (bits : Bits) → IsRange (lane_range (record { signed = signed; bits = bits }))
near_by true Eight = record { low = record { le = tt }; ordered = record { le = tt }; high = record { le = tt } }
near_by true Sixteen = record { low = record { le = tt }; ordered = record { le = tt }; high = record { le = tt } }
near_by true ThirtyTwo = record { low = record { le = tt }; ordered = record { le = tt }; high = record { le = tt } }
near_by false Eight = record { low = record { le = tt }; ordered = record { le = tt }; high = record { le = tt } }
near_by false Sixteen = record { low = record { le = tt }; ordered = record { le = tt }; high = record { le = tt } }
near_by false ThirtyTwo = record { low = record { le = tt }; ordered = record { le = tt }; high = record { le = tt } }

pub is_range_lane : (t : LaneType) → IsRange (lane_range t)
is_range_lane t = near_by t.signed t.bits

pub is_range_clamp : (t : LaneType) (a : Range) → IsRange a → IsRange (clamp_range t a)
is_range_clamp t a p =
    let near = is_range_lane t in
    let low = (nearest t a.lo).member in
    let high = (nearest t a.hi).member in
    record {
      low = omega (arith, ints, near.low, low.low);
      ordered = clamped_rises t a.lo a.hi p.ordered;
      high = omega (arith, ints, near.high, high.high);
    }

pub inside_holds : (a b : Range) (n : ℤ) → lies_in a b ≡ true → Includes a n → Includes b n
inside_holds a b n e h =
    let p = both (le_z b.lo a.lo) (le_z a.hi b.hi) e in
    record { low = omega (arith, ints, p.0, h.low); high = omega (arith, ints, p.1, h.high) }
