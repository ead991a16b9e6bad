-- The first of several things that may be there.
use Rattle.std.specs.Prelude.{List, [], ◌∷◌, Option, Some, None, Result, Ok, Err}

abbrev pub this_or : {A : Type 0} → Option A → Option A → Option A
this_or (Some x) o = Some x
this_or None o = o

abbrev pub first_some : {A : Type 0} → List (Option A) → Option A
first_some [] = None
first_some (o ∷ os) = this_or o (first_some os)

-- the fault, or what comes of what was made
abbrev pub onward : {A B : Type 0} → Result A B → (A → Option B) → Option B
onward (Ok x) rest = rest x
onward (Err e) rest = Some e

-- the fault, if it is one
abbrev pub fault_in : {A B : Type 0} → Result A B → Option B
fault_in (Ok x) = None
fault_in (Err e) = Some e
