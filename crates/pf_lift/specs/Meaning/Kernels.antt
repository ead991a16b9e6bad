-- The terms of a kernel, lifted.
use Rattle.std.specs.Prelude.{◌≡◌, ℕ, ◌+◌, ◌≤◌, List, [], ◌∷◌, ◌++◌, codes}
use Rattle.pf_values.specs.declared.kernel.Definition.{Definition}
use Rattle.pf_values.specs.Meaning.Kernels.{Source}
use Rattle.pf_values.specs.Meaning.Terms.{weight_of}
use Rattle.pf_bounds.specs.declared.ranges.Ranges.{Ranges}
use Rattle.pf_check.specs.declared.checked.CheckedParts.{CheckedParts}
use Rattle.pf_lift.specs.Meaning.Rewriting.{LiftsTo}
use Rattle.pf_lift.specs.Meaning.Lifted.{Keeps}

-- the definitions of a kernel, and last its output
abbrev pub written : Source → List Definition
written s = s.defs ++ record { name = codes "out"; ty = s.out_ty; term = s.out } ∷ []

-- e has the name and the type of d, and its term is what the term of d is lifted to, in so many steps
pub record IsLiftOf (rules : List CheckedParts) (ranges : Ranges) (count : ℕ) (d e : Definition) : Type 0 where
  pub name : e.name ≡ d.name
  pub ty : e.ty ≡ d.ty
  pub lifts : LiftsTo rules ranges count d.term e.term
  pub keeps : Keeps ranges d.term e.term
  pub lighter : weight_of e.term + count ≤ weight_of d.term

-- so it is with each of them, in so many steps together
abbrev pub AreLiftsOf : List CheckedParts → Ranges → ℕ → List Definition → List Definition → Type 0
AreLiftsOf rules ranges count [] [] = count ≡ 0
AreLiftsOf rules ranges count (d ∷ ds) (e ∷ es) = (m : ℕ) × (n : ℕ) × (count ≡ m + n) × IsLiftOf rules ranges m d e × AreLiftsOf rules ranges n ds es
AreLiftsOf rules ranges count _ _ = ⊥
