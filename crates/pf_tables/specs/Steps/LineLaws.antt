-- The lines of a set of instructions meet their laws.
use Rattle.std.proofs.Common.{◌≡◌, ℕ, ◌-◌, ◌%◌, ◌^◌, ◌<◌, ◌∷◌, [], true, false, MatchOption, refl, arith, ⊎_elim}
use Rattle.std.specs.Prelude.{nat_lt, ◌&&◌}
use Rattle.std.proofs.lemmas.Bool.{ltb-true, and_parts, cases_Bool}
use Rattle.pf_frames.specs.declared.line.TableLine.{TableLine}
use Rattle.pf_frames.specs.declared.line.TableLine.TheVariants.{Vector, Control as OfControl}
use Rattle.pf_frames.specs.Meaning.Laws.{IsSpellingOf, IsLineTable, IsTableLine, IsPrintedBy}
use Rattle.pf_tables.specs.declared.row.Shape.TheVariants as Shapes
use Rattle.pf_tables.specs.declared.row.place.TheConstants as Places
use Rattle.pf_tables.specs.declared.instruction.Instruction.{Instruction}
use Rattle.pf_tables.specs.declared.instruction.Instruction.TheVariants.{Load, Constant}
use Rattle.pf_tables.specs.Meaning.Sets.{InstructionSet}
use Rattle.pf_tables.specs.Meaning.Instructions.{IsListed}
use Rattle.pf_tables.specs.Meaning.Lines.{printed, also_constant, also, lines}
use Rattle.pf_tables.specs.Meaning.Tables.{table_of}
use Rattle.pf_tables.specs.Meaning.Laws.{IsSet}
use Rattle.pf_tables.specs.Steps.OperandLaws.{constant_short}
use Rattle.pf_tables.specs.Steps.VectorLines.{spelled_by, spelled_vector}
use Rattle.pf_tables.specs.Steps.ControlLines.{spelled_control}

spelled : (s : InstructionSet) → IsSet s → (x : TableLine Instruction) → IsTableLine (table_of s) (IsListed s) x → IsSpellingOf (lines s) x (printed s x)
spelled s law (Vector op) is = spelled_vector s law op is.0 is.1
spelled s law (OfControl c) is = spelled_control s law c is

-- the other spelling of a constant
also_spelled : (s : InstructionSet) → IsSet s → (n : ℕ) → n < 2 ^ 32 → MatchOption (also_constant s n) (Unit {0}) (λ p. IsSpellingOf (lines s) (Vector (Constant n)) p)
also_spelled s law n h =
    ⊎_elim
    (λ (yes : (s.style.packets && nat_lt (2 ^ 32 - 5) n) ≡ true).
    let parts = and_parts s.style.packets (nat_lt (2 ^ 32 - 5) n) yes in
    let last : 2 ^ 32 - 5 < n = ltb-true (2 ^ 32 - 5) n parts.1 in
    let back : (2 ^ 32 - (2 ^ 32 - n)) % 2 ^ 32 ≡ n = omega arith in
    rw yes
    (spelled_by s law (Vector (Constant n)) Shapes.NegativeConstant (record { place = Places.NEGATIVE_CONSTANT; numbers = 7 ∷ (2 ^ 32 - n) ∷ [] }) (let some = law.some_rows in omega arith) (law.fixed_rows.negative parts.0) refl
    (omega arith, (omega arith, tt)) (rw back refl)))
    (λ (no : (s.style.packets && nat_lt (2 ^ 32 - 5) n) ≡ false). rw no tt)
    (cases_Bool (s.style.packets && nat_lt (2 ^ 32 - 5) n))

also_vector : (s : InstructionSet) → IsSet s → (op : Instruction) → IsListed s op → MatchOption (also s (Vector op)) (Unit {0}) (λ p. IsSpellingOf (lines s) (Vector op) p)
also_vector s law (Constant n) is = also_spelled s law n (constant_short s.style.constant n is.numbers)
also_vector s law (Load r) is = tt
also_vector s law _ is = tt

also_line : (s : InstructionSet) → IsSet s → (x : TableLine Instruction) → IsTableLine (table_of s) (IsListed s) x → MatchOption (also s x) (Unit {0}) (λ p. IsSpellingOf (lines s) x p)
also_line s law (Vector op) is = also_vector s law op is.0
also_line s law (OfControl c) is = tt

pub lines_are : (s : InstructionSet) → IsSet s → IsLineTable (lines s) (IsTableLine (table_of s) (IsListed s))
lines_are s law = record { printed = spelled s law; also = also_line s law; apart = law.apart; good = law.good; short = law.short }

pub texts_are : (s : InstructionSet) → IsSet s → IsPrintedBy (lines s) s.jumps (table_of s)
texts_are s law = record { text = λ op. refl; also = λ op. refl; control = λ c. refl; below = law.below; onward = law.onward; forked = law.forked; no_jump = law.no_jump }
