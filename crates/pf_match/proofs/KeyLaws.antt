-- The numbers for an operator and a type, and the keys of rules.
use Rattle.std.proofs.Common.{◌≡◌, refl, sym, ap, ◌∙◌, subst, ℕ, zero, suc, ◌+◌, ◌<◌, eqb-true, ℤ, pos, ◌<ℤ◌, Bool, true, false, List, [], ◌∷◌, ◌++◌, length, take, get_or, Option, Some, None, arith}
use Rattle.std.specs.Prelude.{Contains, AllPairs, ◌||◌, slice_get, slice_index_or}
use Rattle.std.proofs.lemmas.Bool.{eq-eqb}
use Rattle.std.proofs.lemmas.Int.{ints}
use Rattle.std.proofs.lemmas.List.{take_more, append_assoc, get_or_default}
use Rattle.std.proofs.lemmas.List.Elements.{Contains-append_right}
use Rattle.pf_ints.specs.declared.lane.LaneType.{LaneType}
use Rattle.pf_values.proofs.NodeRanges.{same_type_is}
use Rattle.pf_values.proofs.Typing.{same_self}
use Rattle.pf_values.specs.declared.op.Op.{Op}
use Rattle.pf_values.specs.declared.op.Op.TheVariants.{Cast, Add, Sub, Mul, ShiftLeft, ShiftRight, Min, Max, SelectGreater, SelectEqual, Abs, WideningAdd, WideningSub, WideningMul, ExtendingAdd, HalvingAdd, RoundingHalvingAdd, HalvingSub, SaturatingAdd, SaturatingSub, SaturatingCast, Absd, RoundingShr, MulShr, RoundingMulShr}
use Rattle.pf_values.specs.Meaning.Terms.{same_type}
use Rattle.pf_rules.specs.declared.rule.RuleParts.{RuleParts}
use Rattle.pf_rules.specs.declared.shifts.Pair.{Pair}
use Rattle.pf_match.specs.declared.key.RuleKey.{RuleKey}
use Rattle.pf_match.specs.Meaning.Candidates.{type_at, type_before, types_at}
use Rattle.pf_match.specs.Steps.Keys.{place_of, has_place, has_type, is_for, one_if, numbers_for}

-- ---- places of operators

abbrev op_at : ℕ → Op
op_at n = slice_index_or (Cast ∷ Add ∷ Sub ∷ Mul ∷ ShiftLeft ∷ ShiftRight ∷ Min ∷ Max ∷ SelectGreater ∷ SelectEqual ∷ Abs ∷ WideningAdd ∷ WideningSub ∷ WideningMul ∷ ExtendingAdd ∷ HalvingAdd ∷ RoundingHalvingAdd ∷ HalvingSub ∷ SaturatingAdd ∷ SaturatingSub ∷ SaturatingCast ∷ Absd ∷ RoundingShr ∷ MulShr ∷ RoundingMulShr ∷ []) n Cast

at_place : (op : Op) → op_at (place_of op) ≡ op
at_place Cast = refl
at_place Add = refl
at_place Sub = refl
at_place Mul = refl
at_place ShiftLeft = refl
at_place ShiftRight = refl
at_place Min = refl
at_place Max = refl
at_place SelectGreater = refl
at_place SelectEqual = refl
at_place Abs = refl
at_place WideningAdd = refl
at_place WideningSub = refl
at_place WideningMul = refl
at_place ExtendingAdd = refl
at_place HalvingAdd = refl
at_place RoundingHalvingAdd = refl
at_place HalvingSub = refl
at_place SaturatingAdd = refl
at_place SaturatingSub = refl
at_place SaturatingCast = refl
at_place Absd = refl
at_place RoundingShr = refl
at_place MulShr = refl
at_place RoundingMulShr = refl

-- an operator's place is its own
pub same_place : (op other : Op) → place_of op ≡ place_of other → op ≡ other
same_place op other e = sym (at_place op) ∙ ap op_at e ∙ at_place other

pub place_is : (o : Option Op) (op : Op) → has_place (place_of op) o ≡ true → o ≡ Some op
place_is None op h = absurd (cc h)
place_is (Some other) op h = ap Some (same_place other op (eqb-true (place_of other) (place_of op) h))

pub has_own_place : (o : Option Op) (op : Op) → o ≡ Some op → has_place (place_of op) o ≡ true
has_own_place o op e = ap (has_place (place_of op)) e ∙ eq-eqb (place_of op) (place_of op) refl

-- ---- types

pub type_found : (ty : LaneType) (ts : List LaneType) → has_type ty ts ≡ true → Contains ts ty
type_found ty [] h = absurd (cc h)
type_found ty (t ∷ ts) h = by (same_type ty t) refl h (type_found ty ts)
  where
    by : (b : Bool) → same_type ty t ≡ b → b || has_type ty ts ≡ true → (has_type ty ts ≡ true → Contains ts ty) → Contains (t ∷ ts) ty
    by true e g rest = (0, omega arith, sym (same_type_is ty t e))
    by false e g rest = Contains-append_right (t ∷ []) ts ty (rest g)

pub has_found : (ty : LaneType) (ts : List LaneType) → Contains ts ty → has_type ty ts ≡ true
has_found ty [] (k, below, is) = absurd (omega (arith, below))
has_found ty (t ∷ ts) (zero, below, is) = ap (λ b. b || has_type ty ts) (ap (same_type ty) is ∙ same_self ty)
has_found ty (t ∷ ts) (suc k, below, is) = by (same_type ty t) (has_found ty ts (k, omega (arith, below), is))
  where
    by : (b : Bool) → has_type ty ts ≡ true → b || has_type ty ts ≡ true
    by true e = refl
    by false e = e

-- the types that a left side has are those at the widths and shifts
pub at_pair : (r : RuleParts) (ps : List Pair) (ty : LaneType) → Contains (types_at r ps) ty → (p : Pair) × Contains ps p × (type_at r p ≡ Some ty)
at_pair r [] ty h = absurd (omega (arith, h.1))
at_pair r (p ∷ ps) ty h = by (type_at r p) refl h (λ g. let found = at_pair r ps ty g in (found.0, Contains-append_right (p ∷ []) ps found.0 found.1, found.2))
  where
    by : (o : Option LaneType) → type_at r p ≡ o → Contains (type_before o (types_at r ps)) ty → (Contains (types_at r ps) ty → (q : Pair) × Contains (p ∷ ps) q × (type_at r q ≡ Some ty)) →
        (q : Pair) × Contains (p ∷ ps) q × (type_at r q ≡ Some ty)
    by None e g later = later g
    by (Some t) e (zero, below, is) later = (p, (0, omega arith, refl), e ∙ ap Some is)
    by (Some t) e (suc k, below, is) later = later (k, omega (arith, below), is)

pub typed_at : (r : RuleParts) (ps : List Pair) (p : Pair) (ty : LaneType) → Contains ps p → type_at r p ≡ Some ty → Contains (types_at r ps) ty
typed_at r [] p ty (k, below, is) e = absurd (omega (arith, below))
typed_at r (q ∷ ps) p ty (zero, below, is) e = rw (is, e) (0, omega arith, refl)
typed_at r (q ∷ ps) p ty (suc k, below, is) e = by (type_at r q) (typed_at r ps p ty (k, omega (arith, below), is) e)
  where
    by : (o : Option LaneType) → Contains (types_at r ps) ty → Contains (type_before o (types_at r ps)) ty
    by None h = h
    by (Some t) h = Contains-append_right (t ∷ []) (types_at r ps) ty h

types_push : (r : RuleParts) (ps : List Pair) (p : Pair) → types_at r (ps ++ p ∷ []) ≡ types_at r ps ++ type_before (type_at r p) []
types_push r [] p = refl
types_push r (q ∷ ps) p = ap (type_before (type_at r q)) (types_push r ps p) ∙ by (type_at r q)
  where
    by : (o : Option LaneType) → type_before o (types_at r ps ++ type_before (type_at r p) []) ≡ type_before o (types_at r ps) ++ type_before (type_at r p) []
    by None = refl
    by (Some t) = refl

-- one pair more
pub types_more : (r : RuleParts) (ps : List Pair) (i : ℕ) (p : Pair) (ts us : List LaneType) (o : Option LaneType) → ts ≡ types_at r (take i ps) → i < length ps → o ≡ type_at r (get_or ps i p) → us ≡ ts ++ type_before o [] → us ≡ types_at r (take (i + 1) ps)
types_more r ps i p ts us o so_far below is longer =
    longer ∙ ap (λ xs. xs ++ type_before o []) so_far ∙ ap (λ q. types_at r (take i ps) ++ type_before q []) is ∙ sym (types_push r (take i ps) (get_or ps i p)) ∙ sym (ap (types_at r) (take_more ps i p below))

-- ---- numbers

pub numbers_push : (place : ℕ) (ty : LaneType) (n : ℕ) (keys : List RuleKey) (key : RuleKey) →
    numbers_for place ty n (keys ++ key ∷ []) ≡ numbers_for place ty n keys ++ one_if (is_for place ty key) (pos (n + length keys))
numbers_push place ty n [] key = by (is_for place ty key)
  where
    by : (b : Bool) → one_if b (pos n) ++ [] ≡ one_if b (pos (n + 0))
    by true = let e : n ≡ n + 0 = omega arith in ap (λ m. pos m ∷ []) e
    by false = refl
numbers_push place ty n (k ∷ keys) key =
    let e : n + 1 + length keys ≡ n + suc (length keys) = omega arith in
    ap (λ ns. one_if (is_for place ty k) (pos n) ++ ns) (numbers_push place ty (n + 1) keys key ∙ ap (λ m. numbers_for place ty (n + 1) keys ++ one_if (is_for place ty key) (pos m)) e)
    ∙ sym (append_assoc (one_if (is_for place ty k) (pos n)) (numbers_for place ty (n + 1) keys) (one_if (is_for place ty key) (pos (n + suc (length keys)))))

-- a number tells a key
abbrev Told : ℕ → LaneType → ℕ → List RuleKey → ℤ → Type 0
Told place ty n keys m = (i : ℕ) × (key : RuleKey) × (m ≡ pos (n + i)) × (slice_get keys i ≡ Some key) × (is_for place ty key ≡ true)

pub number_is : (place : ℕ) (ty : LaneType) (n : ℕ) (keys : List RuleKey) (m : ℤ) → Contains (numbers_for place ty n keys) m → Told place ty n keys m
number_is place ty n [] m h = absurd (omega (arith, h.1))
number_is place ty n (key ∷ keys) m h =
    by (is_for place ty key) refl h (λ g.
    let found = number_is place ty (n + 1) keys m g in
    (suc found.0, found.1, found.2 ∙ ap pos (let e : n + 1 + found.0 ≡ n + suc found.0 = omega arith in e), found.3, found.4))
  where
    by : (b : Bool) → is_for place ty key ≡ b → Contains (one_if b (pos n) ++ numbers_for place ty (n + 1) keys) m → (Contains (numbers_for place ty (n + 1) keys) m → Told place ty n (key ∷ keys) m) → Told place ty n (key ∷ keys) m
    by false e g later = later g
    by true e (zero, below, is) later = (0, key, sym is ∙ ap pos (let s : n ≡ n + 0 = omega arith in s), refl, e)
    by true e (suc k, below, is) later = later (k, omega (arith, below), is)

-- and each key that is for the place has its number there
pub number_of : (place : ℕ) (ty : LaneType) (n : ℕ) (keys : List RuleKey) (i : ℕ) (key : RuleKey) → slice_get keys i ≡ Some key → is_for place ty key ≡ true → Contains (numbers_for place ty n keys) (pos (n + i))
number_of place ty n [] i key e h = absurd (cc e)
number_of place ty n (k ∷ keys) zero key e h =
    let is : k ≡ key = cc e in
    let own : is_for place ty k ≡ true = ap (is_for place ty) is ∙ h in
    rw own (0, omega arith, ap pos (let s : n ≡ n + 0 = omega arith in s))
number_of place ty n (k ∷ keys) (suc i) key e h =
    let s : n + 1 + i ≡ n + suc i = omega arith in
    Contains-append_right (one_if (is_for place ty k) (pos n)) (numbers_for place ty (n + 1) keys) (pos (n + suc i)) (subst (λ m. Contains (numbers_for place ty (n + 1) keys) (pos m)) s (number_of place ty (n + 1) keys i key e h))

-- the numbers ascend
abbrev Ascending : List ℤ → Type 0
Ascending ns = AllPairs (λ a b. a <ℤ b) ns

ascends_after : (n : ℤ) (ns : List ℤ) → ((m : ℤ) → Contains ns m → n <ℤ m) → Ascending ns → Ascending (n ∷ ns)
ascends_after n ns above rest zero zero d less below = absurd (omega (arith, less))
ascends_after n ns above rest zero (suc j) d less below = above (get_or ns j d) (contained j (omega (arith, below)))
  where
    contained : (i : ℕ) → i < length ns → Contains ns (get_or ns i d)
    contained i lt = (i, lt, get_or_default ns i (get_or ns i d) d lt)
ascends_after n ns above rest (suc i) zero d less below = absurd (omega (arith, less))
ascends_after n ns above rest (suc i) (suc j) d less below = rest i j d (omega (arith, less)) (omega (arith, below))

pub ascending : (place : ℕ) (ty : LaneType) (n : ℕ) (keys : List RuleKey) → Ascending (numbers_for place ty n keys)
ascending place ty n [] = λ i j d less below. absurd (omega (arith, below))
ascending place ty n (key ∷ keys) = by (is_for place ty key) (ascending place ty (n + 1) keys)
  where
    above : (m : ℤ) → Contains (numbers_for place ty (n + 1) keys) m → pos n <ℤ m
    above m h = let found = number_is place ty (n + 1) keys m h in let is = found.2 in rw is (omega (arith, ints))

    by : (b : Bool) → Ascending (numbers_for place ty (n + 1) keys) → Ascending (one_if b (pos n) ++ numbers_for place ty (n + 1) keys)
    by true rest = ascends_after (pos n) (numbers_for place ty (n + 1) keys) above rest
    by false rest = rest
