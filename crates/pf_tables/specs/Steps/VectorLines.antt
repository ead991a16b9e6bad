-- Vector instructions are printed by their rows, and read back.
use Rattle.std.proofs.Common.{List, ◌≡◌, ℕ, ◌*◌, ◌^◌, ◌<◌, ◌≤◌, ◌∷◌, [], Bool, true, false, Option, Some, None, refl, arith, ap, ⊎_elim}
use Rattle.std.specs.Prelude.{nat_lt, nat_le, ◌&&◌}
use Rattle.std.proofs.lemmas.Bool.{ltb-true, lt-ltb, leb-true, eq-eqb, and_parts, cases_Bool}
use Rattle.pf_lanes.specs.declared.registers.Transfer.{Transfer}
use Rattle.pf_machine.specs.Meaning.Tables.{IsOver}
use Rattle.pf_frames.specs.declared.line.TableLine.{TableLine}
use Rattle.pf_frames.specs.declared.line.TableLine.TheVariants.{Vector}
use Rattle.pf_frames.specs.declared.line.Spelling.{Spelling}
use Rattle.pf_frames.specs.Meaning.LineTables.{frame}
use Rattle.pf_frames.specs.Meaning.Frames.{marks}
use Rattle.pf_frames.proofs.OperandLaws.{all_below_at}
use Rattle.pf_frames.specs.Meaning.Laws.{IsSpellingOf}
use Rattle.pf_tables.specs.declared.row.Row.{Row}
use Rattle.pf_tables.specs.declared.row.Shape.{Shape}
use Rattle.pf_tables.specs.declared.instruction.Instruction.{Instruction}
use Rattle.pf_tables.specs.declared.instruction.Instruction.TheVariants.{Load, Store, Copy, Constant, ConstantHigh, FromConstant, Unary, Binary, Accumulate, Shift, ByConstant, JoinedByConstant, Upper, UpperShift, Blend, Choose, Compare, Pair, PairUnary, Move}
use Rattle.pf_tables.specs.Meaning.Sets.{InstructionSet, general}
use Rattle.pf_tables.specs.Meaning.Instructions.{IsListed, place_of, shape_of, constant_place, constant_shape, is_amount, uses, defs}
use Rattle.pf_tables.specs.Meaning.Lines.{transfer_numbers, constant_numbers, numbers, row_place, printed, stored, made_by_shape, is_there, lines}
use Rattle.pf_tables.specs.Meaning.Tables.{table_of}
use Rattle.pf_tables.specs.Meaning.Laws.{IsSet, either, sorts, number, register, is_sound_row, is_suited}
use Rattle.pf_tables.specs.Steps.OperandLaws.{Fit, suited_fit, Short, short, general_fits, low_same, transfer_back, offset_fits, constant_short, constant_fits}

two_tests : (a m b n : ℕ) → (nat_lt a m && nat_lt b n) ≡ true → (a < m) × (b < n)
two_tests a m b n h = let t = and_parts (nat_lt a m) (nat_lt b n) h in (ltb-true a m t.0, ltb-true b n t.1)

-- the amount of a shift that is listed
small_most : (s : InstructionSet) (r : Row) → is_sound_row s r ≡ true → r.most < 64
small_most s r sound = ltb-true r.most 64 (and_parts _ _ sound).1

amount_small : (s : InstructionSet) → IsSet s → (place by : ℕ) → place < s.places → is_amount s place by ≡ true → by < 64
amount_small s law place by inside is =
    let most : (s.row place).most < 64 = small_most s (s.row place) (all_below_at (λ k. is_sound_row s (s.row k)) s.places place law.sound inside) in
    let less : by ≤ (s.row place).most = leb-true by (s.row place).most (and_parts (nat_le (s.row place).least by) (nat_le by (s.row place).most) is).1 in
    omega arith

abbrev transfer_sorts : Bool → List Bool
transfer_sorts last = either last (register ∷ number ∷ number ∷ []) (number ∷ register ∷ number ∷ [])

store_fits : (s : InstructionSet) (last : Bool) (r : Transfer) → r.vector < 2 ^ 32 → general s r.base < 9 → s.style.unit * r.j < 2 ^ 32
    → Fit (transfer_sorts last) (transfer_numbers s last r)
store_fits s true r v b o = (b, (o, (v, tt)))
store_fits s false r v b o = (v, (b, (o, tt)))

fits_transfer : (s : InstructionSet) (last : Bool) → IsSet s → (r : Transfer) → (nat_lt r.base 8 && nat_lt r.j 8) ≡ true → r.vector < 2 ^ 32
    → Fit (transfer_sorts last) (transfer_numbers s last r)
fits_transfer s last law r is v =
    let t = two_tests r.base 8 r.j 8 is in
    store_fits s last r v (general_fits s r.base t.0) (offset_fits s.style.unit r.j law.small_unit t.1)

fits_vector : (s : InstructionSet) → IsSet s → (op : Instruction) → IsListed s op → Short (uses op) → Short (defs op) → Fit (sorts s.style (shape_of s op)) (numbers s op)
fits_vector s law (Load r) is u d = fits_transfer s false law r is.numbers d.0
fits_vector s law (Store r) is u d = fits_transfer s s.style.stores_last law r is.numbers u.0
fits_vector s law (Copy r) is u d = (d.0, u)
fits_vector s law (Constant n) is u d = constant_fits s s.style.constant s.style.packets n law.constant (constant_short s.style.constant n is.numbers)
fits_vector s law (ConstantHigh n) is u d = (constant_short None n is.numbers, tt)
fits_vector s law (FromConstant place to) is u d = d
fits_vector s law (Unary place r) is u d = (d.0, u)
fits_vector s law (Binary place r) is u d = (d.0, u)
fits_vector s law (Accumulate place r) is u d = u
fits_vector s law (Shift place r by) is u d = (d.0, (u.0, (let less = amount_small s law place by is.inside is.numbers in omega arith, tt)))
fits_vector s law (ByConstant place r) is u d = (d.0, u)
fits_vector s law (JoinedByConstant place r) is u d = (d.0, u)
fits_vector s law (Upper place r) is u d = u
fits_vector s law (UpperShift place r by) is u d = (d.0, (u.1.0, (let less = amount_small s law place by is.inside is.numbers in omega arith, tt)))
fits_vector s law (Blend place r mask) is u d = (d.0, u)
fits_vector s law (Choose place r) is u d = (d.0, u)
fits_vector s law (Compare place r) is u d = u
fits_vector s law (Pair place to r) is u d = (d.1.0, (d.0, u))
fits_vector s law (PairUnary place to from) is u d = (d.1.0, (d.0, u))
fits_vector s law (Move place to r) is u d = (d.1.0, (d.0, u))

stored_back : (s : InstructionSet) (r : Transfer) → 1 ≤ s.style.unit → r.base < 8 → r.j < 8 → stored s (transfer_numbers s s.style.stores_last r) ≡ r
stored_back s r unit base j =
    ⊎_elim
    (λ (last : s.style.stores_last ≡ true). rw last (transfer_back s r unit base j))
    (λ (first : s.style.stores_last ≡ false). rw first (transfer_back s r unit base j))
    (cases_Bool s.style.stores_last)

constant_back : (s : InstructionSet) (constant : Option ℕ) → s.style.constant ≡ constant → (n place : ℕ) → made_by_shape s (constant_shape constant) place (constant_numbers constant n) ≡ Some (Vector (Constant n))
constant_back s None is n place = refl
constant_back s (Some k) is n place = rw (is, eq-eqb k k refl) refl

back_vector : (s : InstructionSet) → IsSet s → (op : Instruction) → IsListed s op → made_by_shape s (shape_of s op) (place_of s op) (numbers s op) ≡ Some (Vector op)
back_vector s law (Load r) is = let t = two_tests r.base 8 r.j 8 is.numbers in ap (λ (t : Transfer). Some (Vector (Load t))) (transfer_back s r law.unit t.0 t.1)
back_vector s law (Store r) is = let t = two_tests r.base 8 r.j 8 is.numbers in ap (λ (t : Transfer). Some (Vector (Store t))) (stored_back s r law.unit t.0 t.1)
back_vector s law (Constant n) is = constant_back s s.style.constant refl n (constant_place s.style.constant)
back_vector s law (Shift place r by) is = let less = amount_small s law place by is.inside is.numbers in rw (low_same by (omega arith)) refl
back_vector s law (UpperShift place r by) is = let less = amount_small s law place by is.inside is.numbers in rw (low_same by (omega arith)) refl
back_vector s law _ is = refl

-- a row of the shape is there, and these operands fit it and are read back
pub spelled_by : (s : InstructionSet) → IsSet s → (x : TableLine Instruction) (shape : Shape) (p : Spelling)
    → p.place < s.places → (s.row p.place).shape ≡ shape → is_there shape ≡ true
    → Fit (sorts s.style shape) p.numbers → made_by_shape s shape p.place p.numbers ≡ Some x → IsSpellingOf (lines s) x p
spelled_by s law x shape p inside is there fit back = record {
  inside = inside;
  here = rw is there;
  fits = suited_fit (sorts s.style shape) (marks (frame (lines s) p.place)) p.numbers (rw is at (all_below_at (is_suited s) s.places p.place law.suited inside)) fit;
  back = rw is back;
}

constant_there : (constant : Option ℕ) → is_there (constant_shape constant) ≡ true
constant_there None = refl
constant_there (Some n) = refl

shape_there : (s : InstructionSet) (op : Instruction) → is_there (shape_of s op) ≡ true
shape_there s (Constant n) = constant_there s.style.constant
shape_there s _ = refl

pub spelled_vector : (s : InstructionSet) → IsSet s → (op : Instruction) → IsListed s op → IsOver (table_of s) op → IsSpellingOf (lines s) (Vector op) (printed s (Vector op))
spelled_vector s law op is over =
    let here : row_place s (place_of s op) ≡ place_of s op = rw (lt-ltb (place_of s op) s.places is.inside) refl in
    rw here (spelled_by s law (Vector op) (shape_of s op) (record { place = place_of s op; numbers = numbers s op }) is.inside is.shape (shape_there s op)
    (fits_vector s law op is (short s.vectors law.few_vectors (uses op) over.uses) (short s.vectors law.few_vectors (defs op) over.defs))
    (back_vector s law op is))
