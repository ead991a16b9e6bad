-- A set of vector instructions as one table, and the laws that every such set meets.
use Rattle.std.specs.Prelude.{◌≡◌, ℕ, ◌+◌, ◌*◌, ◌<◌, ◌≤◌, List, [], ◌∷◌, length, map, Bool, true, false, IsTrue, Option, Some, None, MatchOption, All, Contains, ◌⊎◌}
use Rattle.std.specs.Option.{option_map}
use Rattle.pf_ints.specs.declared.target.Target.{Target}
use Rattle.pf_machine.specs.declared.registers.Reg.{Reg}
use Rattle.pf_machine.specs.declared.registers.Reg.TheVariants.{V, K, Q}
use Rattle.pf_machine.specs.declared.registers.RegFile.{RegFile}
use Rattle.pf_machine.specs.declared.access.Access.{Access}
use Rattle.pf_machine.specs.declared.control.Control.{Control}
use Rattle.pf_machine.specs.Meaning.Bytes.{AreBytes}
use Rattle.pf_machine.specs.Meaning.RegisterFiles.{reads, writes, IsRegisterOf, renamed_vector, renamed_register, register_by}
use Rattle.pf_machine.specs.Meaning.Control.{IsControl}
use Rattle.pf_text.specs.Meaning.Lines.{IsLine, IsInstruction}

pub record Table (O : Type 0) : Type 0 where
  pub target : Target
  -- bytes of a vector, vectors that an allocator may hand out, and vectors of the machine
  pub vector : ℕ
  pub names : ℕ
  pub vectors : ℕ
  -- the registers that an operation reads, and those that it changes
  pub uses : O → List Reg
  pub defs : O → List Reg
  -- what the defs hold after it, by what the uses hold before
  pub outcome : O → List (List ℕ) → List (List ℕ)
  -- the load or store that it is
  pub access : O → Option Access
  pub cost : O → ℕ
  -- the operation with another name for a vector, and with other names for all of them
  pub renamed : O → ℕ → ℕ → O
  pub renamed_all : O → (ℕ → ℕ) → O
  -- names that stand for one register of the machine for good
  pub fixed : ℕ → Bool
  -- a load and a store through the pointer register, at a number of vectors behind it
  pub load : ℕ → ℕ → O
  pub store : ℕ → ℕ → O
  -- how instructions are printed, and the other spellings of a vector instruction that are read as it
  pub text : O → List ℕ
  pub also : O → List (List ℕ)
  pub control_text : Control → List ℕ

-- the file after an operation that is no load or store
abbrev pub after : {O : Type 0} → Table O → O → RegFile → RegFile
after t op f = writes f (t.defs op) (t.outcome op (reads f (t.uses op)))

-- the operation names the machine's vectors alone
pub record IsOver {O : Type 0} (t : Table O) (op : O) : Type 0 where
  pub uses : All (λ r. IsRegisterOf t.vectors r) (t.uses op)
  pub defs : All (λ r. IsRegisterOf t.vectors r) (t.defs op)

-- the file has so many vectors, each of as many bytes as the table's, and a truth value for each byte
pub record IsFile {O : Type 0} (t : Table O) (many : ℕ) (f : RegFile) : Type 0 where
  pub count : length f.vectors ≡ many
  pub vectors : All (λ v. AreBytes t.vector v) f.vectors
  pub predicate : length f.q ≡ t.vector

-- an operation may take effect on a file: it is no load or store, and the file has what it names
pub record CanRun {O : Type 0} (t : Table O) (op : O) (f : RegFile) : Type 0 where
  pub computes : t.access op ≡ None
  pub uses : All (λ r. IsRegisterOf (length f.vectors) r) (t.uses op)
  pub defs : All (λ r. IsRegisterOf (length f.vectors) r) (t.defs op)
  pub file : IsFile t (length f.vectors) f

-- the operation is spelled so: as it is printed, or otherwise
abbrev pub IsSpelling : {O : Type 0} → Table O → O → List ℕ → Type 0
IsSpelling t op s = (s ≡ t.text op) ⊎ Contains (t.also op) s

-- a line is read as this operation, or as this control instruction: it is a spelling of it, up to blanks
abbrev pub MeansOp : {O : Type 0} → Table O → List ℕ → O → Type 0
MeansOp t line op = (s : List ℕ) × IsSpelling t op s × IsLine line s

abbrev pub MeansControl : {O : Type 0} → Table O → List ℕ → Control → Type 0
MeansControl t line c = IsLine line (t.control_text c)

-- what a reader of operations answers: the operation over the machine's vectors that the line means, or that it means none
abbrev pub ReadsOp : {O : Type 0} → Table O → (O → Type 0) → List ℕ → Option O → Type 0
ReadsOp {O} t is_op line None = (op : O) → is_op op → IsOver t op → MeansOp t line op → ⊥
ReadsOp t is_op line (Some op) = IsOver t op × MeansOp t line op

abbrev pub ReadsControl : {O : Type 0} → Table O → List ℕ → Option Control → Type 0
ReadsControl t line None = (c : Control) → IsControl c → MeansControl t line c → ⊥
ReadsControl t line (Some c) = MeansControl t line c

-- the vector of an access is what the operation changes, or what it reads, and its base is a general register
abbrev pub Accesses : List Reg → List Reg → Access → Type 0
Accesses uses defs a = (a.base < 8) × (IsTrue a.load → Contains defs (V a.vector)) × (a.load ≡ false → Contains uses (V a.vector))

-- the access with another name for a vector
abbrev pub renamed_access : ℕ → ℕ → Access → Access
renamed_access from to a = record a { vector = renamed_vector from to a.vector }

abbrev pub access_by : (ℕ → ℕ) → Access → Access
access_by f a = record a { vector = f a.vector }

-- a function of names keeps the fixed ones
abbrev pub KeepsFixed : (ℕ → Bool) → (ℕ → ℕ) → Type 0
KeepsFixed fixed f = (n : ℕ) → fixed n ≡ true → f n ≡ n

-- how many of the registers are vectors
abbrev pub vector_count : List Reg → ℕ
vector_count [] = 0
vector_count (V n ∷ rs) = 1 + vector_count rs
vector_count (K ∷ rs) = vector_count rs
vector_count (Q ∷ rs) = vector_count rs

-- the laws, over the values that are operations
pub record IsTable {O : Type 0} (t : Table O) (is_op : O → Type 0) : Type 0 where
  -- an operation that runs leaves bytes of the same sizes in the file
  pub sized : (op : O) (f : RegFile) → is_op op → CanRun t op f → IsFile t (length f.vectors) (after t op f)
  -- there is a result for each of its defs
  pub whole : (op : O) (held : List (List ℕ)) → is_op op → t.access op ≡ None → length held ≡ length (t.uses op) → length (t.outcome op held) ≡ length (t.defs op)
  -- it names at most four vectors
  pub few : (op : O) → is_op op → vector_count (t.uses op) + vector_count (t.defs op) ≤ 4
  -- a new name stands in place of the old one in uses, defs and access; results, cost and the rest of the access stay
  pub rename_uses : (op : O) (from to : ℕ) → t.fixed from ≡ false → t.fixed to ≡ false → t.uses (t.renamed op from to) ≡ map (λ r. renamed_register from to r) (t.uses op)
  pub rename_defs : (op : O) (from to : ℕ) → t.fixed from ≡ false → t.fixed to ≡ false → t.defs (t.renamed op from to) ≡ map (λ r. renamed_register from to r) (t.defs op)
  pub rename_outcome : (op : O) (from to : ℕ) (held : List (List ℕ)) → t.outcome (t.renamed op from to) held ≡ t.outcome op held
  pub rename_access : (op : O) (from to : ℕ) → t.access (t.renamed op from to) ≡ option_map (λ a. renamed_access from to a) (t.access op)
  pub rename_cost : (op : O) (from to : ℕ) → t.cost (t.renamed op from to) ≡ t.cost op
  -- the same where a function that keeps fixed names gives all names; another name for one vector is such a function
  pub rename_all_uses : (op : O) (f : ℕ → ℕ) → KeepsFixed t.fixed f → t.uses (t.renamed_all op f) ≡ map (λ r. register_by f r) (t.uses op)
  pub rename_all_defs : (op : O) (f : ℕ → ℕ) → KeepsFixed t.fixed f → t.defs (t.renamed_all op f) ≡ map (λ r. register_by f r) (t.defs op)
  pub rename_all_outcome : (op : O) (f : ℕ → ℕ) (held : List (List ℕ)) → t.outcome (t.renamed_all op f) held ≡ t.outcome op held
  pub rename_all_access : (op : O) (f : ℕ → ℕ) → t.access (t.renamed_all op f) ≡ option_map (λ a. access_by f a) (t.access op)
  pub rename_all_cost : (op : O) (f : ℕ → ℕ) → t.cost (t.renamed_all op f) ≡ t.cost op
  pub rename_one : (op : O) (from to : ℕ) → t.fixed from ≡ false → t.renamed op from to ≡ t.renamed_all op (λ n. renamed_vector from to n)
  -- a vector has 1 to 128 bytes
  pub some_bytes : 1 ≤ t.vector
  pub few_bytes : t.vector ≤ 128
  -- the vectors of the machine have room for four names more than an allocator hands out, none of them fixed
  pub room : t.names + 4 ≤ t.vectors
  pub free : (n : ℕ) → n < t.names + 4 → t.fixed n ≡ false
  pub inside : (n : ℕ) → t.fixed n ≡ true → n < t.vectors
  -- loads and stores
  pub accesses : (op : O) → is_op op → MatchOption (t.access op) (Unit {0}) (λ a. Accesses (t.uses op) (t.defs op) a)
  pub load_access : (to j : ℕ) → j ≤ 7 → t.access (t.load to j) ≡ Some (record { load = true; vector = to; base = 5; offset = j * t.vector })
  pub store_access : (from j : ℕ) → j ≤ 7 → t.access (t.store from j) ≡ Some (record { load = false; vector = from; base = 5; offset = j * t.vector })
  pub load_over : (to j : ℕ) → to < t.vectors → j ≤ 7 → IsOver t (t.load to j)
  pub store_over : (from j : ℕ) → from < t.vectors → j ≤ 7 → IsOver t (t.store from j)
  pub load_cost : (to j : ℕ) → t.cost (t.load to j) ≡ 0
  pub store_cost : (from j : ℕ) → t.cost (t.store from j) ≡ 0
  -- a line means one operation, or one control instruction, or neither, and no label, comment or blank line
  pub one_op : (op other : O) (s : List ℕ) → is_op op → is_op other → IsOver t op → IsOver t other → IsSpelling t op s → MeansOp t s other → op ≡ other
  pub one_control : (c d : Control) → IsControl c → IsControl d → MeansControl t (t.control_text c) d → c ≡ d
  pub apart : (op : O) (c : Control) (s : List ℕ) → is_op op → IsOver t op → IsControl c → IsSpelling t op s → MeansControl t s c → ⊥
  pub instruction : (op : O) (s : List ℕ) → is_op op → IsOver t op → IsSpelling t op s → IsInstruction s
  pub control_instruction : (c : Control) → IsControl c → IsInstruction (t.control_text c)
