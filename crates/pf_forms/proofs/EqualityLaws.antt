-- The test of equality passes exactly where two forms are equal.
use Rattle.std.proofs.Common.{◌≡◌, refl, sym, ap, ◌∙◌, ℤ, Bool, true, false, ◌↔◌, IsTrue, eqb-true, eq-eqb}
use Rattle.std.specs.Prelude.{◌&&◌}
use Rattle.std.specs.Ordering.{int_eq}
use Rattle.std.proofs.lemmas.Bool.Decides.{Decides-int_eq}
use Rattle.pf_ints.specs.declared.lane.LaneType.{LaneType}
use Rattle.pf_ints.specs.declared.lane.Bits.{Bits}
use Rattle.pf_ints.specs.declared.lane.Bits.TheVariants.{Eight, Sixteen, ThirtyTwo}
use Rattle.pf_forms.specs.Meaning.Shapes.{Shape, Var, Num, Pow, Add, Sub, Mul, FloorDiv, Min, Max, Abs, Sel, Wrap, Sat}
use Rattle.pf_forms.specs.Meaning.Equality.{same, same_type}

pub both : (b c : Bool) → b && c ≡ true → (b ≡ true) × (c ≡ true)
both true true e = (refl, refl)
both true false e = absurd (cc)
both false c e = absurd (cc)

type_by : (r s : Bool) (b c : Bits) → same_type (record { signed = r; bits = b }) (record { signed = s; bits = c }) ≡ true → ◌≡◌ {A = LaneType} (record { signed = r; bits = b }) (record { signed = s; bits = c })
type_by true true Eight Eight e = refl
type_by true true Sixteen Sixteen e = refl
type_by true true ThirtyTwo ThirtyTwo e = refl
type_by false false Eight Eight e = refl
type_by false false Sixteen Sixteen e = refl
type_by false false ThirtyTwo ThirtyTwo e = refl
type_by _ _ _ _ e = absurd (cc)

same_type_true : (s t : LaneType) → same_type s t ≡ true → s ≡ t
same_type_true s t = type_by s.signed t.signed s.bits t.bits

itself_by : (r : Bool) (b : Bits) → same_type (record { signed = r; bits = b }) (record { signed = r; bits = b }) ≡ true
itself_by true Eight = refl
itself_by true Sixteen = refl
itself_by true ThirtyTwo = refl
itself_by false Eight = refl
itself_by false Sixteen = refl
itself_by false ThirtyTwo = refl

same_type_itself : (t : LaneType) → same_type t t ≡ true
same_type_itself t = itself_by t.signed t.bits

int_true : (m n : ℤ) → int_eq m n ≡ true → m ≡ n
int_true m n e = (Decides-int_eq m n).0 e

int_itself : (n : ℤ) → int_eq n n ≡ true
int_itself n = (Decides-int_eq n n).1 refl

pub same_itself : (f : Shape) → same f f ≡ true
same_itself (Var n) = eq-eqb n n refl
same_itself (Num n) = int_itself n
same_itself (Pow e) = eq-eqb e e refl
same_itself (Add x y) = rw (same_itself x, same_itself y) refl
same_itself (Sub x y) = rw (same_itself x, same_itself y) refl
same_itself (Mul x y) = rw (same_itself x, same_itself y) refl
same_itself (FloorDiv x e) = rw (eq-eqb e e refl, same_itself x) refl
same_itself (Min x y) = rw (same_itself x, same_itself y) refl
same_itself (Max x y) = rw (same_itself x, same_itself y) refl
same_itself (Abs x) = same_itself x
same_itself (Sel a b x y) = rw (same_itself a, same_itself b, same_itself x, same_itself y) refl
same_itself (Wrap t x) = rw (same_type_itself t, same_itself x) refl
same_itself (Sat t x) = rw (same_type_itself t, same_itself x) refl

pub same_true : (f g : Shape) → same f g ≡ true → f ≡ g
same_true (Var m) (Var n) e = ap Var (eqb-true m n e)
same_true (Num m) (Num n) e = ap Num (int_true m n e)
same_true (Pow d) (Pow k) e = ap Pow (eqb-true d k e)
same_true (Add u v) (Add x y) e = let p = both _ _ e in ap (λ s. Add s v) (same_true u x p.0) ∙ ap (Add x) (same_true v y p.1)
same_true (Sub u v) (Sub x y) e = let p = both _ _ e in ap (λ s. Sub s v) (same_true u x p.0) ∙ ap (Sub x) (same_true v y p.1)
same_true (Mul u v) (Mul x y) e = let p = both _ _ e in ap (λ s. Mul s v) (same_true u x p.0) ∙ ap (Mul x) (same_true v y p.1)
same_true (FloorDiv u d) (FloorDiv x k) e =
    let p = both _ _ e in ap (λ n. FloorDiv u n) (eqb-true d k p.0) ∙ ap (λ s. FloorDiv s k) (same_true u x p.1)
same_true (Min u v) (Min x y) e = let p = both _ _ e in ap (λ s. Min s v) (same_true u x p.0) ∙ ap (Min x) (same_true v y p.1)
same_true (Max u v) (Max x y) e = let p = both _ _ e in ap (λ s. Max s v) (same_true u x p.0) ∙ ap (Max x) (same_true v y p.1)
same_true (Abs u) (Abs x) e = ap Abs (same_true u x e)
same_true (Sel a b u v) (Sel c d x y) e =
    let p = both _ _ e in
    let q = both _ _ p.1 in
    let r = both _ _ q.1 in
    ap (λ s. Sel s b u v) (same_true a c p.0) ∙ ap (λ s. Sel c s u v) (same_true b d q.0) ∙ ap (λ s. Sel c d s v) (same_true u x r.0)
    ∙ ap (Sel c d x) (same_true v y r.1)
same_true (Wrap s u) (Wrap t x) e = let p = both _ _ e in ap (λ a. Wrap a u) (same_type_true s t p.0) ∙ ap (Wrap t) (same_true u x p.1)
same_true (Sat s u) (Sat t x) e = let p = both _ _ e in ap (λ a. Sat a u) (same_type_true s t p.0) ∙ ap (Sat t) (same_true u x p.1)
same_true _ _ e = absurd (cc)

pub is_same : (f g : Shape) (b : Bool) → b ≡ same f g → IsTrue b ↔ (f ≡ g)
is_same f g b e = (λ h. same_true f g (sym e ∙ h), λ h. e ∙ ap (same f) (sym h) ∙ same_itself f)
