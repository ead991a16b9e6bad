use Rattle.std.proofs.Common.{◌≡◌, ◌*ℤ◌, to_z, of_z, arith, rules, refl}
use Rattle.std.specs.Int.{w128, int_min, int_max}
use Rattle.std.proofs.lemmas.Int.{ints, to_z-of_z}
use Rattle.pf_ints.proofs.RangeLaws.{answered, least_product, no_product, at_low, at_high}
use Rattle.pf_ints.proofs.interval.Interval.product.Goals as goal

pub returns-in_err-low_low-clause-value : goal.returns-in_err-low_low-clause-value
returns-in_err-low_low-clause-value c =
    rw (c.from_residual.ensures, ← c.self.view_is, ← c.o.view_is, no_product _ _ _ _ (to_z w128 (of_z w128 c.self.inside.lo)) (to_z w128 (of_z w128 c.o.inside.lo)) c.self.invariant c.o.invariant (at_low _ c.self.invariant) (at_low _ c.o.invariant) (omega (arith, ints)) (omega (arith, ints)) c.in_err-low_low.ensures)
    refl

pub returns-in_err-high_low-clause-value : goal.returns-in_err-high_low-clause-value
returns-in_err-high_low-clause-value c =
    rw (c.from_residual-in_err-high_low.ensures, ← c.self.view_is, ← c.o.view_is, no_product _ _ _ _ (to_z w128 (of_z w128 c.self.inside.hi)) (to_z w128 (of_z w128 c.o.inside.lo)) c.self.invariant c.o.invariant (at_high _ c.self.invariant) (at_low _ c.o.invariant) (omega (arith, ints)) (omega (arith, ints)) c.in_err-high_low.ensures)
    refl

pub returns-in_err-low_high-clause-value : goal.returns-in_err-low_high-clause-value
returns-in_err-low_high-clause-value c =
    rw (c.from_residual-in_err-low_high.ensures, ← c.self.view_is, ← c.o.view_is, no_product _ _ _ _ (to_z w128 (of_z w128 c.self.inside.lo)) (to_z w128 (of_z w128 c.o.inside.hi)) c.self.invariant c.o.invariant (at_low _ c.self.invariant) (at_high _ c.o.invariant) (omega (arith, ints)) (omega (arith, ints)) c.in_err-low_high.ensures)
    refl

pub returns-in_err-high_high-clause-value : goal.returns-in_err-high_high-clause-value
returns-in_err-high_high-clause-value c =
    rw (c.from_residual-in_err-high_high.ensures, ← c.self.view_is, ← c.o.view_is, no_product _ _ _ _ (to_z w128 (of_z w128 c.self.inside.hi)) (to_z w128 (of_z w128 c.o.inside.hi)) c.self.invariant c.o.invariant (at_high _ c.self.invariant) (at_high _ c.o.invariant) (omega (arith, ints)) (omega (arith, ints)) c.in_err-high_high.ensures)
    refl

pub returns-clause-value : goal.returns-clause-value
returns-clause-value c =
    let low : to_z w128 (of_z w128 c.min-least.result) ≡ int_min (int_min (c.self.inside.lo *ℤ c.o.inside.lo) (c.self.inside.hi *ℤ c.o.inside.lo)) (int_min (c.self.inside.lo *ℤ c.o.inside.hi) (c.self.inside.hi *ℤ c.o.inside.hi)) = grind (arith, to_z-of_z) in
    let high : to_z w128 (of_z w128 c.max-greatest.result) ≡ int_max (int_max (c.self.inside.lo *ℤ c.o.inside.lo) (c.self.inside.hi *ℤ c.o.inside.lo)) (int_max (c.self.inside.lo *ℤ c.o.inside.hi) (c.self.inside.hi *ℤ c.o.inside.hi)) = search (rules, to_z-of_z) in
    rw (← c.self.view_is, ← c.o.view_is)
    (answered _ _ _ _ _ (least_product _ _ c.self.invariant c.o.invariant) c.new.ensures.value low high).1
