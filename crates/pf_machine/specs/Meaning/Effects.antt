-- What follows for the effect of an operation of every set.
use Rattle.std.specs.Prelude.{◌≡◌, ◌≢◌, ℕ, List, false, Contains}
use Rattle.pf_machine.specs.declared.registers.Reg.{Reg}
use Rattle.pf_machine.specs.declared.registers.Reg.TheVariants.{V}
use Rattle.pf_machine.specs.declared.registers.RegFile.{RegFile}
use Rattle.pf_machine.specs.Meaning.RegisterFiles.{read, reads, renamed_register}
use Rattle.pf_machine.specs.Meaning.Tables.{Table, CanRun, after}

-- it reads its uses alone: from files that hold the same in them it leaves the same in its defs
abbrev pub ReadsUses : {O : Type 0} → Table O → (O → Type 0) → Type 0
ReadsUses {O} t is_op =
    (op : O) (f g : RegFile) → is_op op → CanRun t op f → CanRun t op g → reads f (t.uses op) ≡ reads g (t.uses op) → reads (after t op f) (t.defs op) ≡ reads (after t op g) (t.defs op)

-- it changes its defs alone
abbrev pub ChangesDefs : {O : Type 0} → Table O → Type 0
ChangesDefs {O} t = (op : O) (f : RegFile) (r : Reg) → (Contains (t.defs op) r → ⊥) → read (after t op f) r ≡ read f r

-- one file holds under the new names what the other holds; what it holds under the name that was free may be anything
pub record IsRenamed (from to : ℕ) (f g : RegFile) : Type 0 where
  pub same : (r : Reg) → r ≢ V to → read f r ≡ read g (renamed_register from to r)

-- with a new name for a vector, one that it doesn't name, it does to the file with the new names what it did to the other
abbrev pub RenamingCommutes : {O : Type 0} → Table O → Type 0
RenamingCommutes {O} t =
    (op : O) (from to : ℕ) (f g : RegFile) → t.fixed from ≡ false → t.fixed to ≡ false → (Contains (t.uses op) (V to) → ⊥) → (Contains (t.defs op) (V to) → ⊥)
    → CanRun t op f → CanRun t (t.renamed op from to) g → IsRenamed from to f g → IsRenamed from to (after t op f) (after t (t.renamed op from to) g)
