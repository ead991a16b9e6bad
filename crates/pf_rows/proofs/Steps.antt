-- The instructions of a block do what the block does.
use Rattle.std.proofs.Common.{◌≡◌, ℕ, zero, suc, ◌+◌, ◌*◌, ◌^◌, ◌<◌, ◌≤◌, List, [], ◌∷◌, ◌++◌, length, take, drop, set, get_or, All, Bool, true, false, Some, refl, arith, ap, sym, subst, ◌∙◌, eqb, ⊎_elim, length-append, length-take, length-drop}
use Rattle.std.proofs.lemmas.List.{get_or-set_same, get_or-set_other, length-set}
use Rattle.std.specs.List.{list_any}
use Rattle.std.proofs.lemmas.Bool.{cases_eq, eqb-true, or_cases}
use Rattle.std.proofs.lemmas.List.Elements.{All-head, All-tail, All-take, All-drop, All-get_or}
use Rattle.pf_machine.specs.declared.registers.Reg.TheVariants.{V}
use Rattle.pf_machine.specs.declared.registers.RegFile.{RegFile}
use Rattle.pf_machine.specs.declared.memory.Region.{Region}
use Rattle.pf_machine.specs.declared.control.Control.TheVariants.{LoadPtr}
use Rattle.pf_machine.specs.declared.code.Line.{Line}
use Rattle.pf_machine.specs.declared.code.Line.TheVariants.{Vector, Control as Controls}
use Rattle.pf_machine.specs.declared.code.Label.{Label}
use Rattle.pf_machine.specs.declared.block.Item.{Item}
use Rattle.pf_machine.specs.declared.block.Item.TheVariants.{Vector as Operation, TapLoad, OutStore, SlotLoad, SlotStore}
use Rattle.pf_machine.specs.Meaning.Bytes.{AreBytes, number}
use Rattle.pf_machine.specs.Meaning.RegisterFiles.{read, write}
use Rattle.pf_machine.specs.Meaning.Memory.{loaded, stored}
use Rattle.pf_machine.specs.Meaning.Tables.{Table, IsTable, IsFile, CanRun, after}
use Rattle.pf_machine.specs.Meaning.Blocks.{Bench, item_step, items_run, IsWithin, AreTaps}
use Rattle.pf_machine.specs.Meaning.MachineSteps.{State, register_wrapped, pointer_bytes}
use Rattle.pf_machine.proofs.FileLaws.{vector_are, file_with}
use Rattle.pf_machine.proofs.StepLaws.{wrapped_small}
use Rattle.pf_rows.specs.Meaning.Scratch.{slot_at}
use Rattle.pf_rows.specs.Meaning.BlockRows.{IsBlockItem, stores_part}
use Rattle.pf_rows.specs.Steps.RowCode.{pixel_lines, scratch_lines, item_lines, block_lines, IsOne}
use Rattle.pf_rows.proofs.Paths.{Stands, stands-front, stands-back, now, Comes, comes-none, comes-on, comes-one}
use Rattle.pf_rows.proofs.Pointers.{length-pixel_lines, scratch_count, length-scratch_lines, comes-pixels, comes-scratch}

-- Memory as a block finds it: a table at tb with the addresses of the taps and of the output at column 0, the scratch, and the taps' bytes from column x on.
-- `Holds` says which memory has these slots and these parts of the output.
pub record Desk {O : Type 0} (t : Table O) (tb s x : ℕ) (widths : List ℕ) (width slots : ℕ) (address : ℕ → ℕ) (taps : List (List ℕ)) (Holds : List (List ℕ) → List (List ℕ) → List Region → Type 0) : Type 0 where
  pub few : All (λ w. w ≤ 2) widths
  pub narrow : width ≤ 2
  pub taps_are : AreTaps t.vector widths taps
  pub low : (k : ℕ) → k < length widths → address k + x * get_or widths k 0 + get_or widths k 0 * t.vector < 2 ^ 32
  pub low_out : address (length widths) + x * width + width * t.vector < 2 ^ 32
  pub low_slots : (slot : ℕ) → slot < slots → s + slot_at t.vector (length widths) slot + t.vector < 2 ^ 32
  pub entry : (kept output : List (List ℕ)) (rs : List Region) → Holds kept output rs → (k : ℕ) → k ≤ length widths
      → (held : List ℕ) × (loaded rs (register_wrapped t.target (tb + 8 * k)) (pointer_bytes t.target) ≡ Some held) × (number held ≡ address k)
  pub tap : (kept output : List (List ℕ)) (rs : List Region) → Holds kept output rs → (k part : ℕ) → k < length widths → part < get_or widths k 0
      → loaded rs (address k + x * get_or widths k 0 + part * t.vector) t.vector ≡ Some (take t.vector (drop (t.vector * part) (get_or taps k [])))
  pub out : (kept output : List (List ℕ)) (rs : List Region) → Holds kept output rs → (part : ℕ) (new : List ℕ) → part < width → AreBytes t.vector new
      → (next : List Region) × (stored rs (address (length widths) + x * width + part * t.vector) new ≡ Some next) × Holds kept (set output part new) next
  pub slot : (kept output : List (List ℕ)) (rs : List Region) → Holds kept output rs → (k : ℕ) → k < slots
      → (loaded rs (s + slot_at t.vector (length widths) k) t.vector ≡ Some (get_or kept k [])) × AreBytes t.vector (get_or kept k [])
  pub keep : (kept output : List (List ℕ)) (rs : List Region) → Holds kept output rs → (k : ℕ) (new : List ℕ) → k < slots → AreBytes t.vector new
      → (next : List Region) × (stored rs (s + slot_at t.vector (length widths) k) new ≡ Some next) × Holds (set kept k new) output next

read_are : {O : Type 0} (t : Table O) (many from : ℕ) (f : RegFile) → IsFile t many f → from < many → AreBytes t.vector (read f (V from))
read_are t many from f is known = let count = is.count in vector_are t many f is from (omega arith)

length-part : (vector part whole : ℕ) (held : List ℕ) → length held ≡ whole * vector → part < whole → whole ≤ 2
    → length (take vector (drop (vector * part) held)) ≡ vector
length-part vector part zero held long inside few = absurd (omega arith)
length-part vector part (suc zero) held long inside few =
    let none : part ≡ 0 = omega arith in
    let start : vector * part ≡ 0 = ap (λ k. vector * k) none ∙ omega arith in
    let size : length held ≡ vector = long ∙ omega arith in
    simp (length-take, length-drop) (omega arith)
length-part vector zero (suc (suc zero)) held long inside few =
    let start : vector * 0 ≡ 0 = omega arith in
    let size : length held ≡ 2 * vector = long ∙ omega arith in
    simp (length-take, length-drop) (omega arith)
length-part vector (suc zero) (suc (suc zero)) held long inside few =
    let start : vector * 1 ≡ vector = omega arith in
    let size : length held ≡ 2 * vector = long ∙ omega arith in
    simp (length-take, length-drop) (omega arith)
length-part vector (suc (suc part)) (suc (suc zero)) held long inside few = absurd (omega arith)
length-part vector part (suc (suc (suc whole))) held long inside few = absurd (omega arith)

bytes-part : (vector part whole : ℕ) (held : List ℕ) → AreBytes (whole * vector) held → part < whole → whole ≤ 2
    → AreBytes vector (take vector (drop (vector * part) held))
bytes-part vector part whole held are inside few = record {
  size = length-part vector part whole held are.size inside few;
  small = All-take (λ b. b < 256) vector (drop (vector * part) held) (All-drop (λ b. b < 256) (vector * part) held are.small);
}

-- a part lies within the whole
part_low : (vector part whole base : ℕ) → part < whole → whole ≤ 2 → base + whole * vector < 2 ^ 32 → base + part * vector < 2 ^ 32
part_low vector part zero base inside few low = absurd (omega arith)
part_low vector zero (suc whole) base inside few low = omega arith
part_low vector (suc zero) (suc zero) base inside few low = absurd (omega arith)
part_low vector (suc zero) (suc (suc zero)) base inside few low = omega arith
part_low vector (suc (suc part)) (suc whole) base inside few low = absurd (omega arith)
part_low vector part (suc (suc (suc whole))) base inside few low = absurd (omega arith)

kept_same : {vector width : ℕ} (output : List (List ℕ)) (part k : ℕ) (new : List ℕ) → length new ≡ vector → k ≡ part → length output ≡ width → part < width
    → length (get_or (set output part new) k []) ≡ vector
kept_same output part k new size same wide inside = ap (λ i. length (get_or (set output part new) i [])) same ∙ ap length (get_or-set_same output part new [] (omega arith)) ∙ size

module _ {I O : Type 0} (t : Table O) (is_op : O → Type 0) (laws : IsTable t is_op) (code : List (Line I O)) (labels : List Label) (tb s x : ℕ) (widths : List ℕ) (width slots : ℕ) (address : ℕ → ℕ) (taps : List (List ℕ)) (Holds : List (List ℕ) → List (List ℕ) → List Region → Type 0) (desk : Desk t tb s x widths width slots address taps Holds) (n u v e : ℕ) (flag : Bool) where
  abbrev at_desk : (a p : ℕ) → RegFile → List Region → State
  at_desk a p f rs = now a (tb ∷ n ∷ s ∷ x ∷ u ∷ p ∷ v ∷ e ∷ []) flag f rs

  -- so many instructions take one bench to the other
  pub record Takes (stored_by : ℕ → Bool) (count a p : ℕ) (rs : List Region) (b b' : Bench) : Type 0 where
    pub pointer : ℕ
    pub left : List Region
    pub comes : Comes t code labels count (at_desk a p b.file rs) (at_desk (a + count) pointer b'.file left)
    pub holds : Holds b'.slots b'.output left
    pub file : IsFile t t.vectors b'.file
    pub wide : length b'.output ≡ width
    -- a part that is there stays there, and those that the items store are there
    pub kept : (part : ℕ) → length (get_or b.output part []) ≡ t.vector → length (get_or b'.output part []) ≡ t.vector
    pub fills : (part : ℕ) → part < width → stored_by part ≡ true → length (get_or b'.output part []) ≡ t.vector

  -- p becomes the address of a tap's pixel x, or the output's
  to_pixel : (a p k by : ℕ) (f : RegFile) (rs : List Region) (held : List ℕ) → Stands code a (Controls (LoadPtr 5 0 k) ∷ pixel_lines 5 by)
      → loaded rs (register_wrapped t.target (tb + 8 * k)) (pointer_bytes t.target) ≡ Some held → number held ≡ address k → address k + x * by < 2 ^ 32
      → Comes t code labels (1 + by) (at_desk a p f rs) (at_desk (a + 1 + by) (address k + x * by) f rs)
  to_pixel a p k by f rs held there load is small =
      let one : Comes t code labels 1 (at_desk a p f rs) (at_desk (a + 1) (number held) f rs) = comes-one t code labels (Controls (LoadPtr 5 0 k)) (at_desk a p f rs) (at_desk (a + 1) (number held) f rs) there.0 (rw load refl) in
      let two = comes-pixels t code labels by (a + 1) 5 (address k) x (tb ∷ n ∷ s ∷ x ∷ u ∷ address k ∷ v ∷ e ∷ []) flag f rs there.1 (omega arith) (omega arith) refl refl small in
      let one' : Comes t code labels 1 (at_desk a p f rs) (at_desk (a + 1) (address k) f rs) = subst (λ l. Comes t code labels 1 (at_desk a p f rs) (at_desk (a + 1) l f rs)) is one in
      comes-on t code labels 1 by _ _ _ one' two

  -- an operation
  operation_takes : (op : O) (a p : ℕ) (rs : List Region) (b : Bench) → Stands code a (Vector op ∷ []) → is_op op → IsWithin t t.vectors slots (Operation op)
      → IsFile t t.vectors b.file → length b.output ≡ width → Holds b.slots b.output rs
      → Takes (λ _. false) 1 a p rs b (item_step t taps (Operation op) b)
  operation_takes op a p rs b there known within file wide holds =
      let count = file.count in
      let can : CanRun t op b.file = record {
        computes = within.0;
        uses = rw count within.1;
        defs = rw count within.2;
        file = rw count file;
      } in
      let plain = within.0 in
      record {
        pointer = p;
        left = rs;
        comes = comes-one t code labels (Vector op) (at_desk a p b.file rs) (at_desk (a + 1) p (after t op b.file) rs) there.0 (rw plain refl);
        holds = holds;
        file = rw count at (laws.sized op b.file known can);
        wide = wide;
        kept = λ part there. there;
        fills = λ part inside stored. absurd (cc);
      }

  -- a part of a tap
  load_takes : (to k part a p : ℕ) (rs : List Region) (b : Bench) → Stands code a (item_lines t widths width (TapLoad to k part)) → to < t.vectors
      → k < length widths → part < get_or widths k 0 → IsFile t t.vectors b.file → length b.output ≡ width → Holds b.slots b.output rs
      → Takes (λ _. false) (2 + get_or widths k 0) a p rs b (item_step t taps (TapLoad to k part) b)
  load_takes to k part a p rs b there known tap_in part_in file wide holds =
      let by = get_or widths k 0 in
      let few : by ≤ 2 = All-get_or (λ w. w ≤ 2) widths k 0 tap_in desk.few in
      let low = desk.low k tap_in in
      let pointer = address k + x * by in
      let held = take t.vector (drop (t.vector * part) (get_or taps k [])) in
      let front : List (Line I O) = Controls (LoadPtr 5 0 k) ∷ pixel_lines 5 by in
      let last : List (Line I O) = Vector (t.load to part) ∷ [] in
      let entry = desk.entry b.slots b.output rs holds k (omega arith) in
      let one = to_pixel a p k by b.file rs entry.0 (stands-front code a front last there) entry.1 entry.2 (omega arith) in
      let count : length front ≡ 1 + by = ap suc (length-pixel_lines I O 5 by) ∙ omega arith in
      let place : a + length front ≡ a + 1 + by = omega arith in
      let at_last : Stands code (a + 1 + by) last = subst (λ m. Stands code m last) place (stands-back code a front last there) in
      let access = laws.load_access to part (omega arith) in
      let there_low : pointer + part * t.vector < 2 ^ 32 = part_low t.vector part by pointer part_in few low in
      let small : register_wrapped t.target (pointer + part * t.vector) ≡ pointer + part * t.vector = wrapped_small t.target (pointer + part * t.vector) there_low in
      let load = desk.tap b.slots b.output rs holds k part tap_in part_in in
      let file' : RegFile = write b.file (V to) held in
      let two : Comes t code labels 1 (at_desk (a + 1 + by) pointer b.file rs) (at_desk (a + 1 + by + 1) pointer file' rs) =
      comes-one t code labels (Vector (t.load to part)) (at_desk (a + 1 + by) pointer b.file rs) (at_desk (a + 1 + by + 1) pointer file' rs) at_last.0 (rw (access, small, load) refl) in
      let all = comes-on t code labels (1 + by) 1 _ _ _ one two in
      let steps : 1 + by + 1 ≡ 2 + by = omega arith in
      let end : a + 1 + by + 1 ≡ a + (2 + by) = omega arith in
      record {
        pointer = pointer;
        left = rs;
        comes = subst (λ c. Comes t code labels c (at_desk a p b.file rs) (at_desk (a + (2 + by)) pointer file' rs)) steps (subst (λ m. Comes t code labels (1 + by + 1) (at_desk a p b.file rs) (at_desk m pointer file' rs)) end all);
        holds = holds;
        file = let found = desk.taps_are in file_with t t.vectors b.file file to held (bytes-part t.vector part by (get_or taps k []) (found.each k tap_in) part_in few);
        wide = wide;
        kept = λ part there. there;
        fills = λ part inside stored. absurd (cc);
      }

  -- a part of the output
  store_takes : (from part a p : ℕ) (rs : List Region) (b : Bench) → Stands code a (item_lines t widths width (OutStore from part)) → from < t.vectors
      → part < width → IsFile t t.vectors b.file → length b.output ≡ width → Holds b.slots b.output rs
      → Takes (λ k. eqb part k) (2 + width) a p rs b (item_step t taps (OutStore from part) b)
  store_takes from part a p rs b there known part_in file wide holds =
      let low = desk.low_out in
      let few = desk.narrow in
      let k = length widths in
      let pointer = address k + x * width in
      let new = read b.file (V from) in
      let front : List (Line I O) = Controls (LoadPtr 5 0 k) ∷ pixel_lines 5 width in
      let last : List (Line I O) = Vector (t.store from part) ∷ [] in
      let entry = desk.entry b.slots b.output rs holds k (omega arith) in
      let one = to_pixel a p k width b.file rs entry.0 (stands-front code a front last there) entry.1 entry.2 (omega arith) in
      let count : length front ≡ 1 + width = ap suc (length-pixel_lines I O 5 width) ∙ omega arith in
      let place : a + length front ≡ a + 1 + width = omega arith in
      let at_last : Stands code (a + 1 + width) last = subst (λ m. Stands code m last) place (stands-back code a front last there) in
      let access = laws.store_access from part (omega arith) in
      let there_low : pointer + part * t.vector < 2 ^ 32 = part_low t.vector part width pointer part_in few low in
      let small : register_wrapped t.target (pointer + part * t.vector) ≡ pointer + part * t.vector = wrapped_small t.target (pointer + part * t.vector) there_low in
      let new_are : AreBytes t.vector new = read_are t t.vectors from b.file file known in
      let size = new_are.size in
      let put = desk.out b.slots b.output rs holds part new part_in new_are in
      let next = put.0 in
      let store = put.1 in
      let two : Comes t code labels 1 (at_desk (a + 1 + width) pointer b.file rs) (at_desk (a + 1 + width + 1) pointer b.file next) =
      comes-one t code labels (Vector (t.store from part)) (at_desk (a + 1 + width) pointer b.file rs) (at_desk (a + 1 + width + 1) pointer b.file next) at_last.0 (rw (access, small, store) refl) in
      let all = comes-on t code labels (1 + width) 1 _ _ _ one two in
      let steps : 1 + width + 1 ≡ 2 + width = omega arith in
      let end : a + 1 + width + 1 ≡ a + (2 + width) = omega arith in
      record {
        pointer = pointer;
        left = next;
        comes = subst (λ c. Comes t code labels c (at_desk a p b.file rs) (at_desk (a + (2 + width)) pointer b.file next)) steps (subst (λ m. Comes t code labels (1 + width + 1) (at_desk a p b.file rs) (at_desk m pointer b.file next)) end all);
        holds = put.2;
        file = file;
        wide = length-set b.output part new ∙ wide;
        kept = λ k there. ⊎_elim
            (λ (same : k ≡ part). kept_same b.output part k new size same wide part_in)
            (λ (other : k ≡ part → ⊥). ap length (get_or-set_other b.output part k new [] other) ∙ there)
            (cases_eq k part);
        fills = λ k inside stored. kept_same b.output part k new size (sym (eqb-true part k stored)) wide part_in;
      }

  -- p becomes the address of a slot
  to_slot : (a p k : ℕ) (f : RegFile) (rs : List Region) → Stands code a (scratch_lines 5 (slot_at t.vector (length widths) k)) → k < slots
      → Comes t code labels (scratch_count (slot_at t.vector (length widths) k)) (at_desk a p f rs) (at_desk (a + scratch_count (slot_at t.vector (length widths) k)) (s + slot_at t.vector (length widths) k) f rs)
  to_slot a p k f rs there inside =
      let low = desk.low_slots k inside in
      comes-scratch t code labels a 5 s (slot_at t.vector (length widths) k) (tb ∷ n ∷ s ∷ x ∷ u ∷ p ∷ v ∷ e ∷ []) flag f rs there (omega arith) refl (omega arith)

  slot_load_takes : (to k a p : ℕ) (rs : List Region) (b : Bench) → Stands code a (item_lines t widths width (SlotLoad to k)) → to < t.vectors → k < slots
      → IsFile t t.vectors b.file → length b.output ≡ width → Holds b.slots b.output rs
      → Takes (λ _. false) (scratch_count (slot_at t.vector (length widths) k) + 1) a p rs b (item_step t taps (SlotLoad to k) b)
  slot_load_takes to k a p rs b there known inside file wide holds =
      let offset = slot_at t.vector (length widths) k in
      let many = scratch_count offset in
      let low = desk.low_slots k inside in
      let front : List (Line I O) = scratch_lines 5 offset in
      let last : List (Line I O) = Vector (t.load to 0) ∷ [] in
      let one = to_slot a p k b.file rs (stands-front code a front last there) inside in
      let at_last : Stands code (a + many) last = subst (λ m. Stands code (a + m) last) (length-scratch_lines I O 5 offset) (stands-back code a front last there) in
      let access = laws.load_access to 0 (omega arith) in
      let none : s + offset + 0 * t.vector ≡ s + offset = omega arith in
      let small : register_wrapped t.target (s + offset) ≡ s + offset = wrapped_small t.target (s + offset) (omega arith) in
      let load = desk.slot b.slots b.output rs holds k inside in
      let given = load.0 in
      let held = get_or b.slots k [] in
      let file' : RegFile = write b.file (V to) held in
      let two : Comes t code labels 1 (at_desk (a + many) (s + offset) b.file rs) (at_desk (a + many + 1) (s + offset) file' rs) =
      comes-one t code labels (Vector (t.load to 0)) (at_desk (a + many) (s + offset) b.file rs) (at_desk (a + many + 1) (s + offset) file' rs) at_last.0 (rw (access, none, small, given) refl) in
      let all = comes-on t code labels many 1 _ _ _ one two in
      let end : a + many + 1 ≡ a + (many + 1) = omega arith in
      record {
        pointer = s + offset;
        left = rs;
        comes = subst (λ m. Comes t code labels (many + 1) (at_desk a p b.file rs) (at_desk m (s + offset) file' rs)) end all;
        holds = holds;
        file = file_with t t.vectors b.file file to held load.1;
        wide = wide;
        kept = λ part there. there;
        fills = λ part inside stored. absurd (cc);
      }

  slot_store_takes : (from k a p : ℕ) (rs : List Region) (b : Bench) → Stands code a (item_lines t widths width (SlotStore from k)) → from < t.vectors
      → k < slots → IsFile t t.vectors b.file → length b.output ≡ width → Holds b.slots b.output rs
      → Takes (λ _. false) (scratch_count (slot_at t.vector (length widths) k) + 1) a p rs b (item_step t taps (SlotStore from k) b)
  slot_store_takes from k a p rs b there known inside file wide holds =
      let offset = slot_at t.vector (length widths) k in
      let many = scratch_count offset in
      let low = desk.low_slots k inside in
      let front : List (Line I O) = scratch_lines 5 offset in
      let last : List (Line I O) = Vector (t.store from 0) ∷ [] in
      let one = to_slot a p k b.file rs (stands-front code a front last there) inside in
      let at_last : Stands code (a + many) last = subst (λ m. Stands code (a + m) last) (length-scratch_lines I O 5 offset) (stands-back code a front last there) in
      let access = laws.store_access from 0 (omega arith) in
      let none : s + offset + 0 * t.vector ≡ s + offset = omega arith in
      let small : register_wrapped t.target (s + offset) ≡ s + offset = wrapped_small t.target (s + offset) (omega arith) in
      let put = desk.keep b.slots b.output rs holds k (read b.file (V from)) inside (read_are t t.vectors from b.file file known) in
      let next = put.0 in
      let store = put.1 in
      let two : Comes t code labels 1 (at_desk (a + many) (s + offset) b.file rs) (at_desk (a + many + 1) (s + offset) b.file next) =
      comes-one t code labels (Vector (t.store from 0)) (at_desk (a + many) (s + offset) b.file rs) (at_desk (a + many + 1) (s + offset) b.file next) at_last.0 (rw (access, none, small, store) refl) in
      let all = comes-on t code labels many 1 _ _ _ one two in
      let end : a + many + 1 ≡ a + (many + 1) = omega arith in
      record {
        pointer = s + offset;
        left = next;
        comes = subst (λ m. Comes t code labels (many + 1) (at_desk a p b.file rs) (at_desk m (s + offset) b.file next)) end all;
        holds = put.2;
        file = file;
        wide = wide;
        kept = λ part there. there;
        fills = λ part inside stored. absurd (cc);
      }

  resized : (by : ℕ → Bool) (c d a p : ℕ) (rs : List Region) (b b' : Bench) → c ≡ d → Takes by c a p rs b b' → Takes by d a p rs b b'
  resized by c d a p rs b b' same takes = subst (λ m. Takes by m a p rs b b') same takes

  -- one item
  item_takes : (item : Item O) (a p : ℕ) (rs : List Region) (b : Bench) → Stands code a (item_lines t widths width item) → IsOne is_op item
      → IsWithin t t.vectors slots item → IsBlockItem widths width item → IsFile t t.vectors b.file → length b.output ≡ width → Holds b.slots b.output rs
      → Takes (λ part. stores_part part item) (length (item_lines {I = I} t widths width item)) a p rs b (item_step t taps item b)
  item_takes (Operation op) a p rs b there one within step file wide holds = operation_takes op a p rs b there one within file wide holds
  item_takes (TapLoad to k part) a p rs b there one within step file wide holds =
      let by = get_or widths k 0 in
      let back : List (Line I O) = Vector (t.load to part) ∷ [] in
      let size : 2 + by ≡ suc (length (pixel_lines {I = I} {O = O} 5 by ++ back)) = simp (length-append, length-pixel_lines I O 5 by) (omega arith) in
      resized (λ _. false) (2 + by) _ a p rs b _ size (load_takes to k part a p rs b there within step.0 step.1 file wide holds)
  item_takes (OutStore from part) a p rs b there one within step file wide holds =
      let back : List (Line I O) = Vector (t.store from part) ∷ [] in
      let size : 2 + width ≡ suc (length (pixel_lines {I = I} {O = O} 5 width ++ back)) = simp (length-append, length-pixel_lines I O 5 width) (omega arith) in
      resized (λ k. eqb part k) (2 + width) _ a p rs b _ size (store_takes from part a p rs b there within step file wide holds)
  item_takes (SlotLoad to k) a p rs b there one within step file wide holds =
      let offset = slot_at t.vector (length widths) k in
      let back : List (Line I O) = Vector (t.load to 0) ∷ [] in
      let front : List (Line I O) = scratch_lines 5 offset in
      let size : scratch_count offset + 1 ≡ length (front ++ back) = sym (length-append front back ∙ ap (λ c. c + 1) (length-scratch_lines I O 5 offset)) in
      resized (λ _. false) (scratch_count offset + 1) _ a p rs b _ size (slot_load_takes to k a p rs b there within.0 within.1 file wide holds)
  item_takes (SlotStore from k) a p rs b there one within step file wide holds =
      let offset = slot_at t.vector (length widths) k in
      let back : List (Line I O) = Vector (t.store from 0) ∷ [] in
      let front : List (Line I O) = scratch_lines 5 offset in
      let size : scratch_count offset + 1 ≡ length (front ++ back) = sym (length-append front back ∙ ap (λ c. c + 1) (length-scratch_lines I O 5 offset)) in
      resized (λ _. false) (scratch_count offset + 1) _ a p rs b _ size (slot_store_takes from k a p rs b there within.0 within.1 file wide holds)

  -- the whole block
  pub block_takes : (block : List (Item O)) (a p : ℕ) (rs : List Region) (b : Bench) → Stands code a (block_lines t widths width block)
      → All (IsOne is_op) block → All (IsWithin t t.vectors slots) block → All (IsBlockItem widths width) block → IsFile t t.vectors b.file
      → length b.output ≡ width → Holds b.slots b.output rs
      → Takes (λ part. list_any (λ item. stores_part part item) block) (length (block_lines {I = I} t widths width block)) a p rs b (items_run t taps block b)
  block_takes [] a p rs b there ones within steps file wide holds =
      let here : a ≡ a + 0 = omega arith in
      record {
        pointer = p;
        left = rs;
        comes = subst (λ m. Comes t code labels 0 (at_desk a p b.file rs) (at_desk m p b.file rs)) here (comes-none t code labels (at_desk a p b.file rs));
        holds = holds;
        file = file;
        wide = wide;
        kept = λ part there. there;
        fills = λ part inside stored. absurd (cc);
      }
  block_takes (item ∷ more) a p rs b there ones within steps file wide holds =
      let front : List (Line I O) = item_lines t widths width item in
      let back : List (Line I O) = block_lines t widths width more in
      let one = item_takes item a p rs b (stands-front code a front back there) (All-head (IsOne is_op) item more ones) (All-head (IsWithin t t.vectors slots) item more within) (All-head (IsBlockItem widths width) item more steps) file wide holds in
      let rest = block_takes more (a + length front) one.pointer one.left (item_step t taps item b) (stands-back code a front back there) (All-tail (IsOne is_op) item more ones) (All-tail (IsWithin t t.vectors slots) item more within) (All-tail (IsBlockItem widths width) item more steps) one.file one.wide one.holds in
      let size : length front + length back ≡ length (front ++ back) = sym (length-append front back) in
      let end : a + length front + length back ≡ a + length (front ++ back) = omega arith in
      let all = comes-on t code labels (length front) (length back) _ _ _ one.comes rest.comes in
      record {
        pointer = rest.pointer;
        left = rest.left;
        comes = subst (λ c. Comes t code labels c (at_desk a p b.file rs) (at_desk (a + length (front ++ back)) rest.pointer (items_run t taps more (item_step t taps item b)).file rest.left)) size
            (subst (λ m. Comes t code labels (length front + length back) (at_desk a p b.file rs) (at_desk m rest.pointer (items_run t taps more (item_step t taps item b)).file rest.left)) end all);
        holds = rest.holds;
        file = rest.file;
        wide = rest.wide;
        kept = λ part there. rest.kept part (one.kept part there);
        fills = λ part inside stored. ⊎_elim
            (λ (here : stores_part part item ≡ true). rest.kept part (one.fills part inside here))
            (λ (later : list_any (λ item. stores_part part item) more ≡ true). rest.fills part inside later)
            (or_cases (stores_part part item) (list_any (λ item. stores_part part item) more) stored);
      }
