-- Instructions at a place in code, and a row that comes from one state to another.
use Rattle.std.proofs.Common.{◌≡◌, ℕ, suc, ◌+◌, List, [], ◌∷◌, ◌++◌, length, Bool, Some, refl, arith, ap, subst, ◌∙◌, append_assoc, length-append}
use Rattle.std.specs.Prelude.{slice_get}
use Rattle.pf_machine.specs.declared.registers.RegFile.{RegFile}
use Rattle.pf_machine.specs.declared.memory.Region.{Region}
use Rattle.pf_machine.specs.declared.code.Line.{Line}
use Rattle.pf_machine.specs.declared.code.Label.{Label}
use Rattle.pf_machine.specs.Meaning.Tables.{Table}
use Rattle.pf_machine.specs.Meaning.MachineSteps.{State, Continues, run, step, line_step}
use Rattle.pf_machine.proofs.StepLaws.{run_moved, slice_get-behind}

-- the instructions stand in the code from this place on
abbrev pub Stands : {A : Type 0} → List A → ℕ → List A → Type 0
Stands code a [] = Unit {0}
Stands code a (line ∷ lines) = (slice_get code a ≡ Some line) × Stands code (a + 1) lines

pub stands-front : {A : Type 0} (code : List A) (a : ℕ) (front back : List A) → Stands code a (front ++ back) → Stands code a front
stands-front code a [] back there = tt
stands-front code a (line ∷ front) back there = (there.0, stands-front code (a + 1) front back there.1)

pub stands-back : {A : Type 0} (code : List A) (a : ℕ) (front back : List A) → Stands code a (front ++ back) → Stands code (a + length front) back
stands-back code a [] back there = let none : a ≡ a + 0 = omega arith in subst (λ m. Stands code m back) none there
stands-back code a (line ∷ front) back there =
    let next : a + 1 + length front ≡ a + suc (length front) = omega arith in
    subst (λ m. Stands code m back) next (stands-back code (a + 1) front back there.1)

pub stands-whole : {A : Type 0} (lines front : List A) → Stands (front ++ lines) (length front) lines
stands-whole [] front = tt
stands-whole {A} (line ∷ lines) front =
    let one : List A = line ∷ [] in
    let more : length (front ++ one) ≡ length front + 1 = simp length-append (omega arith) in
    let rest : Stands (front ++ line ∷ lines) (length front + 1) lines = subst (λ m. Stands (front ++ line ∷ lines) m lines) more (subst (λ l. Stands l (length (front ++ one)) lines) (append_assoc front one lines) (stands-whole lines (front ++ one))) in
    (slice_get-behind front line lines (length front) refl, rest)

-- the machine before an instruction
abbrev pub now : ℕ → List ℕ → Bool → RegFile → List Region → State
now a general flag file regions = record { at = a; general = general; flag = flag; file = file; regions = regions }

module _ {I O : Type 0} (t : Table O) (code : List (Line I O)) (labels : List Label) where
  -- so many steps lead from one state to the other
  pub record Comes (count : ℕ) (from to : State) : Type 0 where
    pub by : (m : ℕ) → run t code labels (count + m) from ≡ run t code labels m to

  pub comes-none : (s : State) → Comes 0 s s
  comes-none s = record { by = λ m. let none : 0 + m ≡ m = omega arith in ap (λ c. run t code labels c s) none }

  pub comes-on : (c d : ℕ) (r s q : State) → Comes c r s → Comes d s q → Comes (c + d) r q
  comes-on c d r s q first second =
      record { by = λ m. let sum : c + d + m ≡ c + (d + m) = omega arith in ap (λ k. run t code labels k r) sum ∙ first.by (d + m) ∙ second.by m }

  pub comes-one : (line : Line I O) (s next : State) → slice_get code s.at ≡ Some line → line_step t labels (length code) line s ≡ Continues next
      → Comes 1 s next
  comes-one line s next there moved =
      let here : step t code labels s ≡ Continues next = rw there moved in
      record { by = λ m. let sum : 1 + m ≡ suc m = omega arith in ap (λ k. run t code labels k s) sum ∙ run_moved t code labels m s next here }
