-- The lists of an index when a rule is added.
use Rattle.std.proofs.Common.{◌≡◌, refl, sym, ap, ◌∙◌, subst, ℕ, zero, suc, ◌+◌, ◌<◌, ◌==◌, eqb-true, ℤ, pos, Bool, true, false, List, [], ◌∷◌, ◌++◌, length, Some, None, arith, ◌⊎◌, inl, inr}
use Rattle.std.specs.Prelude.{◌&&◌, slice_get, slice_set, Result, Ok, Err, OnOk, OnErr}
use Rattle.std.proofs.lemmas.Bool.{cases_eq, eq-eqb}
use Rattle.std.proofs.lemmas.List.{append-nil}
use Rattle.pf_ints.specs.declared.lane.LaneType.{LaneType}
use Rattle.pf_ints.specs.declared.lane.Bits.{Bits}
use Rattle.pf_ints.specs.declared.lane.Bits.TheVariants.{Eight, Sixteen, ThirtyTwo}
use Rattle.pf_values.specs.declared.op.Op.{Op}
use Rattle.pf_values.specs.Meaning.Terms.{typed_as}
use Rattle.pf_match.specs.declared.key.RuleKey.{RuleKey}
use Rattle.pf_match.specs.declared.lists.TypeLists.{TypeLists}
use Rattle.pf_match.specs.Steps.Keys.{place_of, has_place, has_type, is_for, one_if, numbers_for}
use Rattle.pf_match.specs.Steps.Lists.{list_of, list_or_none, lists_at, IsIndex}
use Rattle.pf_match.proofs.KeyLaws.{numbers_push}

-- what holds of the list of each type
pub each_type : (before after : TypeLists) (types : List LaneType) (number : ℤ) →
    after.u8s ≡ list_of before (typed_as false Eight) ++ one_if (has_type (typed_as false Eight) types) number →
    after.i8s ≡ list_of before (typed_as true Eight) ++ one_if (has_type (typed_as true Eight) types) number →
    after.u16s ≡ list_of before (typed_as false Sixteen) ++ one_if (has_type (typed_as false Sixteen) types) number →
    after.i16s ≡ list_of before (typed_as true Sixteen) ++ one_if (has_type (typed_as true Sixteen) types) number →
    after.u32s ≡ list_of before (typed_as false ThirtyTwo) ++ one_if (has_type (typed_as false ThirtyTwo) types) number →
    after.i32s ≡ list_of before (typed_as true ThirtyTwo) ++ one_if (has_type (typed_as true ThirtyTwo) types) number →
    (ty : LaneType) → list_of after ty ≡ list_of before ty ++ one_if (has_type ty types) number
each_type before after types number u8 i8 u16 i16 u32 i32 ty = by ty.signed ty.bits
  where
    by : (s : Bool) (b : Bits) → list_of after (typed_as s b) ≡ list_of before (typed_as s b) ++ one_if (has_type (typed_as s b) types) number
    by false Eight = u8
    by true Eight = i8
    by false Sixteen = u16
    by true Sixteen = i16
    by false ThirtyTwo = u32
    by true ThirtyTwo = i32

-- empty lists at the end change nothing
pub lists_push : (ls : List TypeLists) (l : TypeLists) → ((ty : LaneType) → list_of l ty ≡ []) → (place : ℕ) (ty : LaneType) → lists_at (ls ++ l ∷ []) place ty ≡ lists_at ls place ty
lists_push [] l none zero ty = none ty
lists_push [] l none (suc place) ty = refl
lists_push (k ∷ ls) l none zero ty = refl
lists_push (k ∷ ls) l none (suc place) ty = lists_push ls l none place ty

pub lists_here : (ls : List TypeLists) (l : TypeLists) (n : ℕ) (ty : LaneType) → n < length ls → lists_at (slice_set ls n l) n ty ≡ list_of l ty
lists_here [] l n ty below = absurd (omega (arith, below))
lists_here (k ∷ ls) l zero ty below = refl
lists_here (k ∷ ls) l (suc n) ty below = lists_here ls l n ty (omega (arith, below))

pub lists_else : (ls : List TypeLists) (l : TypeLists) (n place : ℕ) (ty : LaneType) → (n ≡ place → ⊥) → lists_at (slice_set ls n l) place ty ≡ lists_at ls place ty
lists_else [] l n place ty other = refl
lists_else (k ∷ ls) l zero zero ty other = absurd (other refl)
lists_else (k ∷ ls) l zero (suc place) ty other = refl
lists_else (k ∷ ls) l (suc n) zero ty other = refl
lists_else (k ∷ ls) l (suc n) (suc place) ty other = lists_else ls l n place ty (λ e. other (ap suc e))

-- a rule without an operator at its root stands in no list
pub index_unlisted : (keys longer : List RuleKey) (ls : List TypeLists) (none : List ℤ) (key : RuleKey) → IsIndex keys ls none → key.op ≡ None → longer ≡ keys ++ key ∷ [] → IsIndex longer ls none
index_unlisted keys longer ls none key h rootless is = record {
  lists = λ place ty.
      let off : is_for place ty key ≡ false = ap (λ o. has_place place o && has_type ty key.types) rootless in
      h.lists place ty ∙ sym (ap (numbers_for place ty 0) is ∙ numbers_push place ty 0 keys key ∙ ap (λ b. numbers_for place ty 0 keys ++ one_if b (pos (0 + length keys))) off ∙ append-nil (numbers_for place ty 0 keys));
  empty = h.empty;
}

pub index_kept : {E : Type 0} (keys after : List RuleKey) (ls : List TypeLists) (none : List ℤ) (key : RuleKey) (answer : Result (Unit {0}) E) → IsIndex keys ls none → key.op ≡ None → OnOk answer (after ≡ keys ++ key ∷ []) → OnErr answer (after ≡ keys) → IsIndex after ls none
index_kept keys after ls none key (Ok u) h rootless ok err = index_unlisted keys after ls none key h rootless ok
index_kept keys after ls none key (Err e) h rootless ok err = subst (λ ks. IsIndex ks ls none) (sym err) h

-- a rule of an operator stands in that operator's lists of its types
pub index_listed : (keys longer : List RuleKey) (ls before after : List TypeLists) (none : List ℤ) (key : RuleKey) (op : Op) (number : ℤ) (old new : TypeLists) → IsIndex keys ls none → key.op ≡ Some op → longer ≡ keys ++ key ∷ [] → number ≡ pos (length keys) →
    ((place : ℕ) (ty : LaneType) → lists_at before place ty ≡ lists_at ls place ty) → slice_get before (place_of op) ≡ Some old → place_of op < length before →
    ((ty : LaneType) → list_of new ty ≡ list_of old ty ++ one_if (has_type ty key.types) number) → after ≡ slice_set before (place_of op) new → IsIndex longer after none
index_listed keys longer ls before after none key op number old new h has is last same there below with_it set = record {
  lists = λ place ty. by place ty (cases_eq (place_of op) place);
  empty = h.empty;
}
  where
    pushed : (place : ℕ) (ty : LaneType) → numbers_for place ty 0 longer ≡ numbers_for place ty 0 keys ++ one_if (is_for place ty key) (pos (length keys))
    pushed place ty = ap (numbers_for place ty 0) is ∙ numbers_push place ty 0 keys key ∙ ap (λ n. numbers_for place ty 0 keys ++ one_if (is_for place ty key) (pos n)) (let e : 0 + length keys ≡ length keys = omega arith in e)

    here : (ty : LaneType) → lists_at after (place_of op) ty ≡ numbers_for (place_of op) ty 0 longer
    here ty =
        let own : is_for (place_of op) ty key ≡ has_type ty key.types = ap (λ o. has_place (place_of op) o && has_type ty key.types) has ∙ ap (λ b. b && has_type ty key.types) (eq-eqb (place_of op) (place_of op) refl) in
        let before_is : list_of old ty ≡ numbers_for (place_of op) ty 0 keys = sym (ap (list_or_none ty) there) ∙ same (place_of op) ty ∙ h.lists (place_of op) ty in
        ap (λ xs. lists_at xs (place_of op) ty) set ∙ lists_here before new (place_of op) ty below ∙ with_it ty ∙ ap (λ ns. ns ++ one_if (has_type ty key.types) number) before_is
        ∙ ap (λ b. numbers_for (place_of op) ty 0 keys ++ one_if b number) (sym own) ∙ ap (λ n. numbers_for (place_of op) ty 0 keys ++ one_if (is_for (place_of op) ty key) n) last ∙ sym (pushed (place_of op) ty)

    else_same : (place : ℕ) (ty : LaneType) → (place_of op ≡ place → ⊥) → (b : Bool) → (place_of op == place) ≡ b → lists_at after place ty ≡ numbers_for place ty 0 longer
    else_same place ty other true e = absurd (other (eqb-true (place_of op) place e))
    else_same place ty other false e =
        let off : is_for place ty key ≡ false = ap (λ o. has_place place o && has_type ty key.types) has ∙ ap (λ b. b && has_type ty key.types) e in
        ap (λ xs. lists_at xs place ty) set ∙ lists_else before new (place_of op) place ty other ∙ same place ty ∙ h.lists place ty
        ∙ sym (pushed place ty ∙ ap (λ b. numbers_for place ty 0 keys ++ one_if b (pos (length keys))) off ∙ append-nil (numbers_for place ty 0 keys))

    by : (place : ℕ) (ty : LaneType) → (place_of op ≡ place) ⊎ (place_of op ≡ place → ⊥) → lists_at after place ty ≡ numbers_for place ty 0 longer
    by place ty (inl e) = subst (λ n. lists_at after n ty ≡ numbers_for n ty 0 longer) e (here ty)
    by place ty (inr other) = else_same place ty other (place_of op == place) refl
