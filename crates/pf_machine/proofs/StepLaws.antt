-- How a row goes on from the outcome of a step, and numbers in general registers.
use Rattle.std.proofs.Common.{◌≡◌, ℕ, zero, suc, ◌+◌, ◌^◌, ◌<◌, List, [], ◌∷◌, ◌++◌, length, true, false, Some, None, refl, arith}
use Rattle.std.specs.Prelude.{slice_get}
use Rattle.std.specs.Str.{bytes_eq}
use Rattle.std.proofs.Math.Nat.{mod-eq_of_lt}
use Rattle.pf_ints.specs.declared.target.Target.{Target}
use Rattle.pf_ints.specs.declared.target.Target.TheVariants.{Neon, Avx2, Hvx}
use Rattle.pf_machine.specs.declared.access.Access.{Access}
use Rattle.pf_machine.specs.declared.control.Control.{Control}
use Rattle.pf_machine.specs.declared.code.Line.{Line}
use Rattle.pf_machine.specs.declared.code.Line.TheVariants.{Vector, Control as Controls}
use Rattle.pf_machine.specs.declared.code.Label.{Label}
use Rattle.pf_machine.specs.Meaning.Tables.{Table, after}
use Rattle.pf_machine.specs.Meaning.MachineSteps.{State, Outcome, Continues, Returned, Trapped, register_wrapped, place_of, control_step, access_step, step, End, Ended, Stopped, follow, run}

-- a number below 2^32 fits every machine's registers
pub wrapped_small : (target : Target) (n : ℕ) → n < 2 ^ 32 → register_wrapped target n ≡ n
wrapped_small Neon n small = mod-eq_of_lt (omega arith)
wrapped_small Avx2 n small = mod-eq_of_lt (omega arith)
wrapped_small Hvx n small = mod-eq_of_lt small

-- the instruction behind others
pub slice_get-behind : {A : Type 0} (front : List A) (line : A) (back : List A) (n : ℕ) → length front ≡ n → slice_get (front ++ line ∷ back) n ≡ Some line
slice_get-behind [] line back zero count = refl
slice_get-behind [] line back (suc n) count = absurd (omega arith)
slice_get-behind (l ∷ front) line back zero count = absurd (omega arith)
slice_get-behind (l ∷ front) line back (suc n) count = slice_get-behind front line back n (omega arith)

-- the place of a label that is the first of its name
pub place_of-found : (l : Label) (labels : List Label) (end : ℕ) (name : List ℕ) → bytes_eq l.name name ≡ true → place_of (l ∷ labels) end name ≡ l.before
place_of-found l labels end name same = rw same refl

pub place_of-later : (l : Label) (labels : List Label) (end : ℕ) (name : List ℕ) → bytes_eq l.name name ≡ false → place_of (l ∷ labels) end name ≡ place_of labels end name
place_of-later l labels end name other = rw other refl

module _ {I O : Type 0} (t : Table O) (code : List (Line I O)) (labels : List Label) where
  -- a step is what its instruction does
  pub step_control : (s : State) (c : Control) → slice_get code s.at ≡ Some (Controls c) → step t code labels s ≡ control_step t.target labels (length code) c s
  step_control s c here = rw here refl

  pub step_vector : (s : State) (op : O) → slice_get code s.at ≡ Some (Vector op) → t.access op ≡ None → step t code labels s ≡ Continues (record s { at = s.at + 1; file = after t op s.file })
  step_vector s op here computes = rw (here, computes) refl

  pub step_access : (s : State) (op : O) (a : Access) → slice_get code s.at ≡ Some (Vector op) → t.access op ≡ Some a → step t code labels s ≡ access_step t.target t.vector a s
  step_access s op a here is = rw (here, is) refl

  pub run_moved : (n : ℕ) (s next : State) → step t code labels s ≡ Continues next → run t code labels (suc n) s ≡ run t code labels n next
  unfolding run
  run_moved n s next moved = rw moved refl

  pub run_returned : (n : ℕ) (s : State) → step t code labels s ≡ Returned → run t code labels (suc n) s ≡ Ended s
  unfolding run
  run_returned n s returned = rw returned refl

  pub run_trapped : (n address length : ℕ) (s : State) → step t code labels s ≡ Trapped address length → run t code labels (suc n) s ≡ Stopped (s.at + 1) address length s
  unfolding run
  run_trapped n address length s trapped = rw trapped refl

  follow_longer : (f g : State → End) (s last : State) (o : Outcome) → ((next : State) → f next ≡ Ended last → g next ≡ Ended last) → follow f s o ≡ Ended last → follow g s o ≡ Ended last
  follow_longer f g s last (Continues next) longer ends = longer next ends
  follow_longer f g s last Returned longer ends = ends
  follow_longer f g s last (Trapped address length) longer ends = absurd (cc)

  -- a row that returns within some steps returns within more
  pub run_longer : (n more : ℕ) (s last : State) → run t code labels n s ≡ Ended last → run t code labels (n + more) s ≡ Ended last
  unfolding run
  run_longer zero more s last ends = absurd (cc)
  run_longer (suc n) more s last ends =
      let sum : suc n + more ≡ suc (n + more) = omega arith in
      rw sum (follow_longer (run t code labels n) (run t code labels (n + more)) s last (step t code labels s) (λ next. run_longer n more next last) ends)
