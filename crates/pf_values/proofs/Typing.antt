-- Types of operands as they are gathered, one after another.
use Rattle.std.proofs.Common.{◌≡◌, refl, sym, ℕ, ◌+◌, ◌<◌, Bool, true, false, ◌&&◌, List, [], ◌∷◌, ◌++◌, length, map, get_or, append_assoc, append-nil, arith, zero, suc, subst}
use Rattle.std.specs.Prelude.{Result, Ok, Err, Option, Some, None, if◌then◌else◌}
use Rattle.std.specs.Option.{option_or}
use Rattle.pf_ints.specs.declared.lane.LaneType.{LaneType}
use Rattle.pf_ints.specs.declared.lane.Bits.{Bits}
use Rattle.pf_ints.specs.declared.lane.Bits.TheVariants.{Eight, Sixteen, ThirtyTwo}
use Rattle.pf_values.specs.declared.row.Operands.{Operands}
use Rattle.pf_values.specs.declared.row.Operands.TheVariants.{Choice}
use Rattle.pf_values.specs.declared.fault.TermFault.{TermFault}
use Rattle.pf_values.specs.declared.fault.TermFault.TheVariants.{Types, Amount, Memory}
use Rattle.pf_values.specs.declared.term.Term.{Term}
use Rattle.pf_values.specs.Meaning.Terms.{all_true, types_from, with_type, fault_below, same_bool, same_bits, same_type, typed_as, wanted, first_difference, TypesAs}

-- types that were found, before the rest
abbrev pub behind : List LaneType → Result (List LaneType) TermFault → Result (List LaneType) TermFault
behind ts (Ok us) = Ok (ts ++ us)
behind ts (Err e) = Err e

pub and_left : (a b : Bool) → a && b ≡ true → a ≡ true
and_left true b h = refl
and_left false b h = absurd (cc)

pub and_right : (a b : Bool) → a && b ≡ true → b ≡ true
and_right true b h = h
and_right false b h = absurd (cc)

-- what holds of all holds of each
pub all_true_at : (f : Term → Bool) (xs : List Term) (n : ℕ) (d : Term) → all_true (map f xs) ≡ true → n < length xs → f (get_or xs n d) ≡ true
all_true_at f [] n d h below = absurd (omega arith)
all_true_at f (x ∷ xs) zero d h below = and_left _ _ h
all_true_at f (x ∷ xs) (suc n) d h below = all_true_at f xs n d (and_right (f x) _ h) (omega arith)

same_bool_self : (b : Bool) → same_bool b b ≡ true
same_bool_self true = refl
same_bool_self false = refl

same_bits_self : (b : Bits) → same_bits b b ≡ true
same_bits_self Eight = refl
same_bits_self Sixteen = refl
same_bits_self ThirtyTwo = refl

both : (a b : Bool) → a ≡ true → b ≡ true → a && b ≡ true
both true b h k = k
both false b h k = absurd (cc)

pub same_self : (t : LaneType) → same_type t t ≡ true
same_self t = both _ _ (same_bool_self t.signed) (same_bits_self t.bits)

chain : {A : Type 0} (p q r : Bool) (x y z : A) →
    option_or (if p then None else Some x) (option_or (if q then None else Some y) (if r then None else Some z)) ≡ (if p then (if q then (if r then None else Some z) else Some y) else Some x)
chain true true r x y z = refl
chain true false r x y z = refl
chain false q r x y z = refl

-- the types of a choice are judged one after another
pub choice_difference : (a b x y w : LaneType) (first second third later all : Option (LaneType × LaneType)) →
    first ≡ first_difference (a ∷ []) (b ∷ []) → w ≡ typed_as x.signed a.bits →
    second ≡ first_difference (w ∷ []) (x ∷ []) → third ≡ first_difference (x ∷ []) (y ∷ []) →
    later ≡ option_or second third → all ≡ option_or first later →
    all ≡ first_difference (wanted Choice (a ∷ b ∷ x ∷ y ∷ [])) (a ∷ b ∷ x ∷ y ∷ [])
choice_difference a b x y w first second third later all one wide two three e f =
    rw (f, e, one, two, three, wide, same_self a)
    (chain (same_type a b) (same_type (typed_as x.signed a.bits) x) (same_type x y) (a, b) (typed_as x.signed a.bits, x) (x, y))

-- a choice has four operands
pub choice_found : (o : Operands) (ts : List LaneType) (d : LaneType) (found : Option (LaneType × LaneType)) → o ≡ Choice → length ts ≡ 4 →
    found ≡ first_difference (wanted Choice (get_or ts 0 d ∷ get_or ts 1 d ∷ get_or ts 2 d ∷ get_or ts 3 d ∷ []))
    (get_or ts 0 d ∷ get_or ts 1 d ∷ get_or ts 2 d ∷ get_or ts 3 d ∷ []) → found ≡ first_difference (wanted o ts) ts
choice_found o [] d found is h same = absurd (omega arith)
choice_found o (a ∷ []) d found is h same = absurd (omega arith)
choice_found o (a ∷ b ∷ []) d found is h same = absurd (omega arith)
choice_found o (a ∷ b ∷ x ∷ []) d found is h same = absurd (omega arith)
choice_found o (a ∷ b ∷ x ∷ y ∷ []) d found is h same = rw is same
choice_found o (a ∷ b ∷ x ∷ y ∷ z ∷ more) d found is h same = absurd (omega arith)

-- one more type is found
pub gather : (ts : List LaneType) (t : LaneType) (n : ℕ) (rs : List (Result LaneType TermFault)) (all : Result (List LaneType) TermFault) →
    behind ts (types_from n (Ok t ∷ rs)) ≡ all → behind (ts ++ t ∷ []) (types_from (n + 1) rs) ≡ all
gather ts t n rs all h = by (types_from (n + 1) rs) h where
  by : (r : Result (List LaneType) TermFault) → behind ts (with_type t r) ≡ all → behind (ts ++ t ∷ []) r ≡ all
  by (Ok us) h = rw append_assoc h
  by (Err e) h = h

-- no more types are to be found
pub gathered : (ts : List LaneType) (n : ℕ) (all : Result (List LaneType) TermFault) → behind ts (types_from n []) ≡ all → Ok ts ≡ all
gathered ts n all h = rw append-nil at h

-- a fault is found
pub stopped : (ts : List LaneType) (e : TermFault) (n : ℕ) (rs : List (Result LaneType TermFault)) (all : Result (List LaneType) TermFault) →
    behind ts (types_from n (Err e ∷ rs)) ≡ all → Err (fault_below n e) ≡ all
stopped ts e n rs all h = h

-- nothing was found yet
pub behind_nil : (r : Result (List LaneType) TermFault) → behind [] r ≡ r
behind_nil (Ok us) = refl
behind_nil (Err e) = refl

-- a fault is handed on one step up
pub tells_below : (e f : TermFault) (m : ℕ) (r s : Result LaneType TermFault) → TypesAs (Err e) r → TypesAs (Err f) (Err (fault_below m e)) → (r ≡ Err e → s ≡ Err (fault_below m e)) → TypesAs (Err f) s
tells_below (Types p w g) f m r s found told up = subst (TypesAs (Err f)) (sym (up found)) told
tells_below (Amount p a) f m r s found told up = subst (TypesAs (Err f)) (sym (up found)) told
tells_below Memory Memory m r s found told up = tt
tells_below Memory (Types p w g) m r s found told up = absurd (cc)
tells_below Memory (Amount p a) m r s found told up = absurd (cc)
