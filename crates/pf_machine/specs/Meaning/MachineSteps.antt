-- The machine: one step, and a row of steps.
use Rattle.std.specs.Prelude.{ℕ, zero, suc, ◌+◌, ◌-◌, ◌*◌, ◌%◌, ◌^◌, List, [], ◌∷◌, length, Bool, false, if◌then◌else◌, nat_lt, Option, Some, None, slice_get, slice_set, slice_index, slice_index_or, replicate}
use Rattle.std.specs.Str.{bytes_eq}
use Rattle.pf_ints.specs.declared.target.Target.{Target}
use Rattle.pf_ints.specs.declared.target.Target.TheVariants.{Neon, Avx2, Hvx}
use Rattle.pf_machine.specs.declared.registers.RegFile.{RegFile}
use Rattle.pf_machine.specs.declared.memory.Region.{Region}
use Rattle.pf_machine.specs.declared.access.Access.{Access}
use Rattle.pf_machine.specs.declared.control.Control.{Control}
use Rattle.pf_machine.specs.declared.control.Control.TheVariants.{LoadPtr, StorePtr, Imm, AddImm, AddReg, LoadByte, LoadHalf, StoreByte, StoreHalf, Compare, Below, Jump, Return}
use Rattle.pf_machine.specs.declared.code.Line.{Line}
use Rattle.pf_machine.specs.declared.code.Line.TheVariants.{Vector, Control as Controls}
use Rattle.pf_machine.specs.declared.code.Label.{Label}
use Rattle.pf_machine.specs.Meaning.Bytes.{number, bytes}
use Rattle.pf_machine.specs.Meaning.Tables.{Table, after}
use Rattle.pf_machine.specs.Meaning.Memory.{loaded, stored}

-- a machine between two steps: the number of instructions before the next one, the general registers by their roles, the flag, the register file and the memory
pub record State : Type 0 where
  pub at : ℕ
  pub general : List ℕ
  pub flag : Bool
  pub file : RegFile
  pub regions : List Region

-- what a step does: it goes on from a state, it returns, or it finds bytes that it may not use
pub data Outcome : Type 0 where
  Continues : State → Outcome
  Returned : Outcome
  Trapped : (address length : ℕ) → Outcome

-- bytes of a general register
abbrev pub pointer_bytes : Target → ℕ
pointer_bytes Neon = 8
pointer_bytes Avx2 = 8
pointer_bytes Hvx = 4

-- a number in a general register, which wraps
abbrev pub register_wrapped : Target → ℕ → ℕ
register_wrapped target n = n % 2 ^ (8 * pointer_bytes target)

-- the number of instructions before a label
abbrev pub place_of : List Label → ℕ → List ℕ → ℕ
place_of [] end name = end
place_of (l ∷ ls) end name = if bytes_eq l.name name then l.before else place_of ls end name

abbrev pub general_of : State → ℕ → ℕ
general_of s r = slice_index s.general r

-- the next instruction, with this number in a general register
abbrev pub with_general : State → ℕ → ℕ → State
with_general s r n = record s { at = s.at + 1; general = slice_set s.general r n }

-- the next instruction, with this memory
abbrev pub with_regions : State → List Region → State
with_regions s rs = record s { at = s.at + 1; regions = rs }

-- a load or a store goes on with what memory gives, or traps
abbrev pub at_address : {A : Type 0} → ℕ → ℕ → (A → State) → Option A → Outcome
at_address address length next None = Trapped address length
at_address address length next (Some given) = Continues (next given)

-- a load of so many bytes into a general register, and a store of its lowest bytes
abbrev pub load_step : ℕ → ℕ → ℕ → State → Outcome
load_step to address count s = at_address address count (λ held. with_general s to (number held)) (loaded s.regions address count)

abbrev pub store_step : ℕ → ℕ → ℕ → State → Outcome
store_step from address count s = at_address address count (λ rs. with_regions s rs) (stored s.regions address (bytes count (general_of s from)))

abbrev pub sum_of : Target → ℕ → Bool → ℕ → ℕ
sum_of target n down by = if down then register_wrapped target (n + (2 ^ (8 * pointer_bytes target) - by)) else register_wrapped target (n + by)

abbrev pub control_step : Target → List Label → ℕ → Control → State → Outcome
control_step target labels end (LoadPtr to base entry) s = load_step to (register_wrapped target (general_of s base + 8 * entry)) (pointer_bytes target) s
control_step target labels end (StorePtr base entry from) s = store_step from (register_wrapped target (general_of s base + 8 * entry)) (pointer_bytes target) s
control_step target labels end (Imm to n) s = Continues (with_general s to n)
control_step target labels end (AddImm to from down by) s = Continues (with_general s to (sum_of target (general_of s from) down by))
control_step target labels end (AddReg to left right) s = Continues (with_general s to (register_wrapped target (general_of s left + general_of s right)))
control_step target labels end (LoadByte to at) s = load_step to (general_of s at) 1 s
control_step target labels end (LoadHalf to at) s = load_step to (general_of s at) 2 s
control_step target labels end (StoreByte at from) s = store_step from (general_of s at) 1 s
control_step target labels end (StoreHalf at from) s = store_step from (general_of s at) 2 s
control_step target labels end (Compare left right) s = Continues (record s { at = s.at + 1; flag = nat_lt (general_of s left) (general_of s right) })
control_step target labels end (Below label) s = Continues (record s { at = if s.flag then place_of labels end label else s.at + 1 })
control_step target labels end (Jump label) s = Continues (record s { at = place_of labels end label })
control_step target labels end Return s = Returned

-- a load or a store of a vector
abbrev pub access_step : Target → ℕ → Access → State → Outcome
access_step target size a s =
    let address = register_wrapped target (general_of s a.base + a.offset) in
    if a.load
    then at_address address size (λ held. record s { at = s.at + 1; file = record s.file { vectors = slice_set s.file.vectors a.vector held } }) (loaded s.regions address size)
    else at_address address size (λ rs. with_regions s rs) (stored s.regions address (slice_index_or s.file.vectors a.vector []))

abbrev pub by_access : {O : Type 0} → Table O → O → State → Option Access → Outcome
by_access t op s None = Continues (record s { at = s.at + 1; file = after t op s.file })
by_access t op s (Some a) = access_step t.target t.vector a s

abbrev pub line_step : {I O : Type 0} → Table O → List Label → ℕ → Line I O → State → Outcome
line_step t labels end (Vector op) s = by_access t op s (t.access op)
line_step t labels end (Controls c) s = control_step t.target labels end c s

abbrev pub step_at : {I O : Type 0} → Table O → List Label → ℕ → State → Option (Line I O) → Outcome
step_at t labels end s None = Returned
step_at t labels end s (Some line) = line_step t labels end line s

-- one step over a program; behind the last instruction it is a return
abbrev pub step : {I O : Type 0} → Table O → List (Line I O) → List Label → State → Outcome
step t code labels s = step_at t labels (length code) s (slice_get code s.at)

-- how a row ends: it returns, it stops at the instruction of this number, counted from 1, or its steps are spent
pub data End : Type 0 where
  Ended : State → End
  Stopped : (at address length : ℕ) → State → End
  OutOfSteps : State → End

abbrev pub follow : (State → End) → State → Outcome → End
follow rest s (Continues next) = rest next
follow rest s Returned = Ended s
follow rest s (Trapped address length) = Stopped (s.at + 1) address length s

-- a row from a state, of at most so many steps, the return included
unfoldable pub run : {I O : Type 0} → Table O → List (Line I O) → List Label → ℕ → State → End
run t code labels zero s = OutOfSteps s
run t code labels (suc n) s = follow (λ next. run t code labels n next) s (step t code labels s)

-- the state in which a row begins: all registers and the flag are clear, but for the table's
abbrev pub started : {O : Type 0} → Table O → ℕ → List Region → State
started t table regions = record {
  at = 0;
  general = table ∷ 0 ∷ 0 ∷ 0 ∷ 0 ∷ 0 ∷ 0 ∷ 0 ∷ [];
  flag = false;
  file = record { vectors = replicate t.vectors (replicate t.vector 0); k = 0; q = replicate t.vector false };
  regions = regions;
}
