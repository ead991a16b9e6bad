-- Control instructions are printed by their rows, and read back.
use Rattle.std.proofs.Common.{List, ◌≡◌, ℕ, ◌*◌, ◌/◌, ◌%◌, ◌^◌, ◌<◌, ◌≤◌, ◌∷◌, [], IsTrue, Bool, true, false, not, Some, refl, arith, ⊎_elim}
use Rattle.std.specs.Prelude.{nat_lt, nat_le, ◌&&◌, ◌==◌}
use Rattle.std.proofs.lemmas.Bool.{ltb-true, leb-true, eqb-true, and_parts, or_cases, cases_Bool}
use Rattle.pf_machine.specs.declared.control.Control.{Control}
use Rattle.pf_machine.specs.declared.control.Control.TheVariants.{LoadPtr, StorePtr, Imm, AddImm, AddReg, LoadByte, LoadHalf, StoreByte, StoreHalf, Compare, Below, Jump, Return}
use Rattle.pf_machine.specs.Meaning.Control.{is_offset}
use Rattle.pf_frames.specs.declared.line.TableLine.TheVariants.{Control as OfControl}
use Rattle.pf_frames.specs.Meaning.Laws.{IsSpellingOf, IsTableLine}
use Rattle.pf_tables.specs.declared.row.Shape.{Shape}
use Rattle.pf_tables.specs.declared.row.Shape.TheVariants as Shapes
use Rattle.pf_tables.specs.declared.row.place.TheConstants as Places
use Rattle.pf_tables.specs.Meaning.Sets.{InstructionSet, general}
use Rattle.pf_tables.specs.Meaning.Instructions.{IsListed}
use Rattle.pf_tables.specs.Meaning.Lines.{is_pages, two_registers, store_pointer_numbers, control_place, control_numbers, printed, role_at, store_pointer, made_by_shape, is_there, lines}
use Rattle.pf_tables.specs.Meaning.Tables.{table_of}
use Rattle.pf_tables.specs.Meaning.Laws.{IsSet, either, sorts, number, register}
use Rattle.pf_tables.specs.Steps.OperandLaws.{Fit, general_fits, role_back, no_constant}
use Rattle.pf_tables.specs.Steps.VectorLines.{spelled_by}

entry_same : (n : ℕ) → n < 256 → 8 * n / 8 % 256 ≡ n
entry_same n h = omega arith

entry_fits : (n : ℕ) → n < 256 → 8 * n < 2 ^ 32
entry_fits n h = omega arith

pages_small : (by : ℕ) → (by % 4096 == 0 && nat_le by 16773120) ≡ true → (by % 4096 ≡ 0) × (by ≤ 16773120)
pages_small by h = let t = and_parts (by % 4096 == 0) (nat_le by 16773120) h in (eqb-true (by % 4096) 0 t.0, leb-true by 16773120 t.1)

offset_small : (down : Bool) (by : ℕ) → IsTrue (is_offset down by) → by < 2 ^ 32
offset_small true by h = let most : by ≤ 4095 = leb-true by 4095 (and_parts (nat_le 1 by) (nat_le by 4095) h).1 in omega arith
offset_small false by h =
    ⊎_elim
    (λ (small : nat_le by 4095 ≡ true). let most : by ≤ 4095 = leb-true by 4095 small in omega arith)
    (λ (large : (by % 4096 == 0 && nat_le by 16773120) ≡ true). let most : by ≤ 16773120 = (pages_small by large).1 in omega arith)
    (or_cases (nat_le by 4095) (by % 4096 == 0 && nat_le by 16773120) h)

-- what is added in pages is a multiple of them
pages_back : (by : ℕ) → 4095 < by → IsTrue (is_offset false by) → by / 4096 % 65536 * 4096 ≡ by
pages_back by less h =
    ⊎_elim
    (λ (small : nat_le by 4095 ≡ true). let most : by ≤ 4095 = leb-true by 4095 small in absurd (omega arith))
    (λ (large : (by % 4096 == 0 && nat_le by 16773120) ≡ true). let t = pages_small by large in let whole : by % 4096 ≡ 0 = t.0 in let most : by ≤ 16773120 = t.1 in omega arith)
    (or_cases (nat_le by 4095) (by % 4096 == 0 && nat_le by 16773120) h)

-- two registers in either order
two_fit : (s : InstructionSet) (kept : Bool) (a b : ℕ) → a < 8 → b < 8 → Fit (register ∷ register ∷ []) (two_registers s kept a b)
two_fit s true a b h k = (general_fits s a h, (general_fits s b k, tt))
two_fit s false a b h k = (general_fits s b k, (general_fits s a h, tt))

two_back : (s : InstructionSet) (kept : Bool) (a b : ℕ) → a < 8 → b < 8 → (role_at s kept (two_registers s kept a b) 0 1 ≡ a) × (role_at s kept (two_registers s kept a b) 1 0 ≡ b)
two_back s true a b h k = (role_back s a h, role_back s b k)
two_back s false a b h k = (role_back s a h, role_back s b k)

-- a line of a row with the operands of an instruction
abbrev Spelled : InstructionSet → Control → Type 0
Spelled s c = IsSpellingOf (lines s) (OfControl c) (printed s (OfControl c))

spelled : (s : InstructionSet) → IsSet s → (c : Control) (shape : Shape) → control_place s c < 19
    → (s.row (control_place s c)).shape ≡ shape → is_there shape ≡ true
    → Fit (sorts s.style shape) (control_numbers s c) → made_by_shape s shape (control_place s c) (control_numbers s c) ≡ Some (OfControl c) → Spelled s c
spelled s law c shape inside is there fit back = spelled_by s law (OfControl c) shape (printed s (OfControl c)) (let some = law.some_rows in omega arith) is there fit back

abbrev pointer_sorts : Bool → List Bool
pointer_sorts last = either last (register ∷ number ∷ register ∷ []) (register ∷ register ∷ number ∷ [])

store_pointer_fits : (s : InstructionSet) (last : Bool) (base entry from : ℕ) → base < 8 → entry < 256 → from < 8
    → Fit (pointer_sorts last) (store_pointer_numbers s last base entry from)
store_pointer_fits s true base entry from b e f = (general_fits s base b, (entry_fits entry e, (general_fits s from f, tt)))
store_pointer_fits s false base entry from b e f = (general_fits s from f, (general_fits s base b, (entry_fits entry e, tt)))

store_pointer_back : (s : InstructionSet) (base entry from : ℕ) → base < 8 → entry < 256 → from < 8 → store_pointer s (store_pointer_numbers s s.style.stores_last base entry from) ≡ StorePtr base entry from
store_pointer_back s base entry from b e f =
    ⊎_elim
    (λ (last : s.style.stores_last ≡ true). rw (last, role_back s base b, entry_same entry e, role_back s from f) refl)
    (λ (first : s.style.stores_last ≡ false). rw (first, role_back s base b, entry_same entry e, role_back s from f) refl)
    (cases_Bool s.style.stores_last)

three_fit : (s : InstructionSet) (a b by : ℕ) → a < 8 → b < 8 → by < 2 ^ 32 → Fit (register ∷ register ∷ number ∷ []) (general s a ∷ general s b ∷ by ∷ [])
three_fit s a b by h k l = (general_fits s a h, (general_fits s b k, (l, tt)))

-- an addition, in pages or not
spelled_add : (s : InstructionSet) → IsSet s → (to from by : ℕ) → to < 8 → from < 8 → IsTrue (is_offset false by) → Spelled s (AddImm to from false by)
spelled_add s law to from by t f small =
    ⊎_elim
    (λ (pages : is_pages s false by ≡ true).
    let parts = and_parts s.style.adds_pages (nat_lt 4095 by) pages in
    rw pages
    (spelled_by s law (OfControl (AddImm to from false by)) Shapes.AddPages (record { place = Places.ADD_PAGES; numbers = general s to ∷ general s from ∷ by / 4096 ∷ [] }) (let some = law.some_rows in omega arith) (law.fixed_rows.add_pages parts.0) refl
    (three_fit s to from (by / 4096) t f (let less = offset_small false by small in omega arith))
    (rw (role_back s to t, role_back s from f, pages_back by (ltb-true 4095 by parts.1) small) refl)))
    (λ (plain : is_pages s false by ≡ false).
    rw plain
    (spelled_by s law (OfControl (AddImm to from false by)) Shapes.Add (record { place = Places.ADD; numbers = general s to ∷ general s from ∷ by ∷ [] }) (let some = law.some_rows in omega arith) law.fixed_rows.add refl
    (three_fit s to from by t f (offset_small false by small))
    (rw (role_back s to t, role_back s from f) refl)))
    (cases_Bool (is_pages s false by))

pub spelled_control : (s : InstructionSet) → IsSet s → (c : Control) → IsTableLine (table_of s) (IsListed s) (OfControl c) → Spelled s c
spelled_control s law (LoadPtr to base entry) is =
    spelled s law (LoadPtr to base entry) Shapes.LoadPointer (omega arith) law.fixed_rows.load_pointer refl (three_fit s to base (8 * entry) is.0 is.1 (entry_fits entry is.2))
    (rw (role_back s to is.0, role_back s base is.1, entry_same entry is.2) refl)
spelled_control s law (StorePtr base entry from) is =
    spelled s law (StorePtr base entry from) Shapes.StorePointer (omega arith) law.fixed_rows.store_pointer refl (store_pointer_fits s s.style.stores_last base entry from is.0 is.1 is.2)
    (rw (store_pointer_back s base entry from is.0 is.1 is.2) refl)
spelled_control s law (Imm to n) is =
    spelled s law (Imm to n) Shapes.SetNumber (omega arith) law.fixed_rows.set_number refl (general_fits s to is.0, (let e : n < 65536 = is.1 in omega arith, tt))
    (let same : n % 65536 ≡ n = (let e : n < 65536 = is.1 in omega arith) in rw (no_constant s.style.constant s.style.packets to law.constant is.0, role_back s to is.0, same) refl)
spelled_control s law (AddImm to from true by) is =
    spelled s law (AddImm to from true by) Shapes.Sub (omega arith) law.fixed_rows.sub refl (three_fit s to from by is.0 is.1 (offset_small true by is.2)) (rw (role_back s to is.0, role_back s from is.1) refl)
spelled_control s law (AddImm to from false by) is = spelled_add s law to from by is.0 is.1 is.2
spelled_control s law (AddReg to left right) is =
    spelled s law (AddReg to left right) Shapes.AddRegister (omega arith) law.fixed_rows.add_register refl (general_fits s to is.0, (general_fits s left is.1, (general_fits s right is.2, tt)))
    (rw (role_back s to is.0, role_back s left is.1, role_back s right is.2) refl)
spelled_control s law (LoadByte to at) is =
    spelled s law (LoadByte to at) Shapes.LoadByte (omega arith) law.fixed_rows.load_byte refl (two_fit s true to at is.0 is.1) (rw (role_back s to is.0, role_back s at is.1) refl)
spelled_control s law (LoadHalf to at) is =
    spelled s law (LoadHalf to at) Shapes.LoadHalf (omega arith) law.fixed_rows.load_half refl (two_fit s true to at is.0 is.1) (rw (role_back s to is.0, role_back s at is.1) refl)
spelled_control s law (StoreByte at from) is =
    let back = two_back s s.style.stores_last at from is.0 is.1 in
    spelled s law (StoreByte at from) Shapes.StoreByte (omega arith) law.fixed_rows.store_byte refl (two_fit s s.style.stores_last at from is.0 is.1) (rw (back.0, back.1) refl)
spelled_control s law (StoreHalf at from) is =
    let back = two_back s s.style.stores_last at from is.0 is.1 in
    spelled s law (StoreHalf at from) Shapes.StoreHalf (omega arith) law.fixed_rows.store_half refl (two_fit s s.style.stores_last at from is.0 is.1) (rw (back.0, back.1) refl)
spelled_control s law (Compare left right) is =
    let back = two_back s (not s.style.packets) left right is.0 is.1 in
    spelled s law (Compare left right) Shapes.CompareNumbers (omega arith) law.fixed_rows.compare refl (two_fit s (not s.style.packets) left right is.0 is.1) (rw (back.0, back.1) refl)
spelled_control s law (Below label) is = absurd is
spelled_control s law (Jump label) is = absurd is
spelled_control s law Return is = spelled s law Return Shapes.Return (omega arith) law.fixed_rows.return refl tt refl
