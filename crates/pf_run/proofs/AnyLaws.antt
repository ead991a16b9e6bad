-- What reading a text for the target that it names says of the programs of all targets.
use Rattle.std.proofs.Common.{◌≡◌, ℕ, List, [], ◌∷◌, ◌++◌, ◌⊎◌, inl, inr, Ok, Err, refl, sym, ap, subst, ◌∙◌, arith, get_or}
use Rattle.std.specs.List.{AllZip}
use Rattle.std.specs.Str.Lines.{lines}
use Rattle.pf_ints.specs.declared.target.Target.{Target}
use Rattle.pf_ints.specs.declared.target.Target.TheVariants.{Neon as OnNeon, Avx2 as OnAvx2, Hvx as OnHvx}
use Rattle.pf_text.specs.Meaning.Lines.{tight, IsLine}
use Rattle.pf_isa.specs.declared.fault.TextFault.{TextFault}
use Rattle.pf_isa.specs.declared.fault.TextFault.TheVariants.{At, Memory}
use Rattle.pf_isa.specs.declared.fault.TextKind.TheVariants.{Target as TargetKind}
use Rattle.pf_isa.specs.Meaning.Texts.{IsText, declaration_lines, target_line}
use Rattle.pf_isa.specs.Meaning.TextFaults.{IsFor, IsProgramOr, IsTextRefusal}
use Rattle.pf_machine.specs.declared.program.Head.{Head}
use Rattle.pf_machine.specs.Meaning.Programs.{ProgramOf}
use Rattle.pf_machine.specs.Meaning.Tables.{Table}
use Rattle.pf_neon.specs.Meaning.Neon.{Neon, table as neon_table, IsNeonInstruction}
use Rattle.pf_tables.specs.declared.instruction.Instruction.{Instruction}
use Rattle.pf_avx2.specs.Meaning.Avx2.{Avx2, table as avx2_table, IsAvx2Instruction}
use Rattle.pf_hvx.specs.Meaning.Hvx.{Hvx, table as hvx_table, IsHvxInstruction}
use Rattle.pf_run.specs.declared.any.AnyProgram.{AnyProgram}
use Rattle.pf_run.specs.declared.any.AnyProgram.TheVariants.{Neon as NeonProgram, Avx2 as Avx2Program, Hvx as HvxProgram}
use Rattle.pf_run.specs.Meaning.AnyPrograms.{IsAnyText, IsAnyFault, IsFaultOn}

abbrev place : Target → ℕ
place OnNeon = 0
place OnAvx2 = 1
place OnHvx = 2

same_line : (s t : Target) → tight (target_line s) ≡ tight (target_line t) → place s ≡ place t
unfolding tight
same_line OnNeon OnNeon e = refl
same_line OnAvx2 OnAvx2 e = refl
same_line OnHvx OnHvx e = refl
same_line OnNeon OnAvx2 e = absurd (let first : 110 ≡ 97 = ap (λ l. get_or l 8 0) e in omega arith)
same_line OnNeon OnHvx e = absurd (let first : 110 ≡ 104 = ap (λ l. get_or l 8 0) e in omega arith)
same_line OnAvx2 OnNeon e = absurd (let first : 97 ≡ 110 = ap (λ l. get_or l 8 0) e in omega arith)
same_line OnAvx2 OnHvx e = absurd (let first : 97 ≡ 104 = ap (λ l. get_or l 8 0) e in omega arith)
same_line OnHvx OnNeon e = absurd (let first : 104 ≡ 110 = ap (λ l. get_or l 8 0) e in omega arith)
same_line OnHvx OnAvx2 e = absurd (let first : 104 ≡ 97 = ap (λ l. get_or l 8 0) e in omega arith)

one_target : (s t : Target) (ls : List (List ℕ)) → IsFor s ls → IsFor t ls → place s ≡ place t
one_target s t [] first second = absurd first
one_target s t (line ∷ more) first second = same_line s t (sym first ∙ second)

first_named : (target : Target) (h : Head) (declarations rest back front ls : List (List ℕ)) → ls ≡ front ++ back → front ≡ declarations ++ rest
    → AllZip IsLine declarations (declaration_lines target h) → IsFor target ls
first_named target h [] rest back front ls all parts said = absurd said
first_named target h (line ∷ more) rest back front ls all parts said = subst (IsFor target) (sym (all ∙ ap (λ l. l ++ back) parts)) said.0

-- a text's first line names its target
pub names_target : {I O : Type 0} (t : Table O) (is_op : O → Type 0) (bytes : List ℕ) (p : ProgramOf I O) → IsText t is_op bytes p → IsFor t.target (lines bytes)
names_target t is_op bytes p is = first_named t.target p.head is.head.declarations _ is.back is.front (lines bytes) is.parts is.head.parts is.head.declared

-- the target that a program is for
abbrev pub target_of : AnyProgram → Target
target_of (NeonProgram p) = OnNeon
target_of (Avx2Program p) = OnAvx2
target_of (HvxProgram p) = OnHvx

pub names_any : (p : AnyProgram) (bytes : List ℕ) → IsAnyText p bytes → IsFor (target_of p) (lines bytes)
names_any (NeonProgram p) bytes is = names_target _ _ bytes p is
names_any (Avx2Program p) bytes is = names_target _ _ bytes p is
names_any (HvxProgram p) bytes is = names_target _ _ bytes p is

-- a program of these bytes is for the target that they name
apart : (p : AnyProgram) (bytes : List ℕ) (t : Target) → IsAnyText p bytes → IsFor t (lines bytes) → place (target_of p) ≡ place t
apart p bytes t is named = one_target (target_of p) t (lines bytes) (names_any p bytes is) named

-- a text for neon that is read, or refused, is one of no other program of any target
pub read_neon : (bytes : List ℕ) (p : ProgramOf Neon Instruction) → IsFor OnNeon (lines bytes) → ((q : ProgramOf Neon Instruction) → IsText neon_table IsNeonInstruction bytes q → IsProgramOr q (Ok p))
    → (q : AnyProgram) → IsAnyText q bytes → q ≡ NeonProgram p
read_neon bytes p named only (NeonProgram q) is = ap NeonProgram (sym (only q is))
read_neon bytes p named only (Avx2Program q) is = absurd (let other : 1 ≡ 0 = apart (Avx2Program q) bytes OnNeon is named in omega arith)
read_neon bytes p named only (HvxProgram q) is = absurd (let other : 2 ≡ 0 = apart (HvxProgram q) bytes OnNeon is named in omega arith)

pub refused_neon : (bytes : List ℕ) (fault : TextFault) → IsFor OnNeon (lines bytes) → ((q : ProgramOf Neon Instruction) → IsText neon_table IsNeonInstruction bytes q → IsProgramOr q (Err fault))
    → IsTextRefusal Neon neon_table IsNeonInstruction bytes fault → (IsAnyFault bytes fault × ((q : AnyProgram) → IsAnyText q bytes → ⊥)) ⊎ (fault ≡ Memory)
refused_neon bytes (At line kind) named only fault = inl (inl (OnNeon, named, fault), none)
  where
    none : (q : AnyProgram) → IsAnyText q bytes → ⊥
    none (NeonProgram q) is = only q is
    none (Avx2Program q) is = absurd (let other : 1 ≡ 0 = apart (Avx2Program q) bytes OnNeon is named in omega arith)
    none (HvxProgram q) is = absurd (let other : 2 ≡ 0 = apart (HvxProgram q) bytes OnNeon is named in omega arith)
refused_neon bytes Memory named only fault = inr refl

-- a text for avx2 that is read, or refused, is one of no other program of any target
pub read_avx2 : (bytes : List ℕ) (p : ProgramOf Avx2 Instruction) → IsFor OnAvx2 (lines bytes) → ((q : ProgramOf Avx2 Instruction) → IsText avx2_table IsAvx2Instruction bytes q → IsProgramOr q (Ok p))
    → (q : AnyProgram) → IsAnyText q bytes → q ≡ Avx2Program p
read_avx2 bytes p named only (NeonProgram q) is = absurd (let other : 0 ≡ 1 = apart (NeonProgram q) bytes OnAvx2 is named in omega arith)
read_avx2 bytes p named only (Avx2Program q) is = ap Avx2Program (sym (only q is))
read_avx2 bytes p named only (HvxProgram q) is = absurd (let other : 2 ≡ 1 = apart (HvxProgram q) bytes OnAvx2 is named in omega arith)

pub refused_avx2 : (bytes : List ℕ) (fault : TextFault) → IsFor OnAvx2 (lines bytes) → ((q : ProgramOf Avx2 Instruction) → IsText avx2_table IsAvx2Instruction bytes q → IsProgramOr q (Err fault))
    → IsTextRefusal Avx2 avx2_table IsAvx2Instruction bytes fault → (IsAnyFault bytes fault × ((q : AnyProgram) → IsAnyText q bytes → ⊥)) ⊎ (fault ≡ Memory)
refused_avx2 bytes (At line kind) named only fault = inl (inl (OnAvx2, named, fault), none)
  where
    none : (q : AnyProgram) → IsAnyText q bytes → ⊥
    none (NeonProgram q) is = absurd (let other : 0 ≡ 1 = apart (NeonProgram q) bytes OnAvx2 is named in omega arith)
    none (Avx2Program q) is = only q is
    none (HvxProgram q) is = absurd (let other : 2 ≡ 1 = apart (HvxProgram q) bytes OnAvx2 is named in omega arith)
refused_avx2 bytes Memory named only fault = inr refl

-- a text for hvx that is read, or refused, is one of no other program of any target
pub read_hvx : (bytes : List ℕ) (p : ProgramOf Hvx Instruction) → IsFor OnHvx (lines bytes) → ((q : ProgramOf Hvx Instruction) → IsText hvx_table IsHvxInstruction bytes q → IsProgramOr q (Ok p))
    → (q : AnyProgram) → IsAnyText q bytes → q ≡ HvxProgram p
read_hvx bytes p named only (NeonProgram q) is = absurd (let other : 0 ≡ 2 = apart (NeonProgram q) bytes OnHvx is named in omega arith)
read_hvx bytes p named only (Avx2Program q) is = absurd (let other : 1 ≡ 2 = apart (Avx2Program q) bytes OnHvx is named in omega arith)
read_hvx bytes p named only (HvxProgram q) is = ap HvxProgram (sym (only q is))

pub refused_hvx : (bytes : List ℕ) (fault : TextFault) → IsFor OnHvx (lines bytes) → ((q : ProgramOf Hvx Instruction) → IsText hvx_table IsHvxInstruction bytes q → IsProgramOr q (Err fault))
    → IsTextRefusal Hvx hvx_table IsHvxInstruction bytes fault → (IsAnyFault bytes fault × ((q : AnyProgram) → IsAnyText q bytes → ⊥)) ⊎ (fault ≡ Memory)
refused_hvx bytes (At line kind) named only fault = inl (inl (OnHvx, named, fault), none)
  where
    none : (q : AnyProgram) → IsAnyText q bytes → ⊥
    none (NeonProgram q) is = absurd (let other : 0 ≡ 2 = apart (NeonProgram q) bytes OnHvx is named in omega arith)
    none (Avx2Program q) is = absurd (let other : 1 ≡ 2 = apart (Avx2Program q) bytes OnHvx is named in omega arith)
    none (HvxProgram q) is = only q is
refused_hvx bytes Memory named only fault = inr refl

-- bytes whose first line names no target
pub named_none : (bytes : List ℕ) → ((t : Target) → IsFor t (lines bytes) → ⊥) → IsAnyFault bytes (At 1 TargetKind) × ((q : AnyProgram) → IsAnyText q bytes → ⊥)
named_none bytes none = (inr (record { none = none; line_is = refl; kind_is = refl }), λ q is. none (target_of q) (names_any q bytes is))
