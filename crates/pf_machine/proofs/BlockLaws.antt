-- Blocks: one after another, what an item leaves as it was, and that bytes stay bytes.
use Rattle.std.proofs.Common.{◌≡◌, ◌≢◌, ℕ, ◌+◌, ◌*◌, ◌<◌, ◌≤◌, List, [], ◌∷◌, ◌++◌, length, take, drop, All, refl, arith, sym, ◌∙◌}
use Rattle.std.specs.Prelude.{Contains, slice_index, slice_index_or}
use Rattle.std.proofs.lemmas.Nat.{column_fits}
use Rattle.std.proofs.lemmas.List.{length-set}
use Rattle.std.proofs.lemmas.List.Elements.{All-head, All-tail, All-set, All-get_or}
use Rattle.std.proofs.Math.Nat.{mul_comm}
use Rattle.pf_machine.specs.declared.registers.Reg.{Reg}
use Rattle.pf_machine.specs.declared.registers.Reg.TheVariants.{V}
use Rattle.pf_machine.specs.declared.registers.RegFile.{RegFile}
use Rattle.pf_machine.specs.declared.block.Item.{Item}
use Rattle.pf_machine.specs.declared.block.Item.TheVariants.{Vector, TapLoad, OutStore, SlotLoad, SlotStore}
use Rattle.pf_machine.specs.Meaning.Bytes.{AreBytes}
use Rattle.pf_machine.specs.Meaning.RegisterFiles.{read}
use Rattle.pf_machine.specs.Meaning.Tables.{Table, IsTable, IsFile, CanRun}
use Rattle.pf_machine.specs.Meaning.Blocks.{Bench, item_step, items_run, BVal, IsWithin, AreTaps, AreSlots, IsClean}
use Rattle.pf_machine.proofs.EffectLaws.{changes_defs, write_kept}
use Rattle.pf_machine.proofs.FileLaws.{part_are, vector_are, file_with}

-- the registers that an item may change
abbrev pub item_defs : {O : Type 0} → Table O → Item O → List Reg
item_defs t (Vector op) = t.defs op
item_defs t (TapLoad to tap part) = V to ∷ []
item_defs t (OutStore from part) = []
item_defs t (SlotLoad to slot) = V to ∷ []
item_defs t (SlotStore from slot) = []

-- the operation of an item is one of the table
abbrev pub IsItem : {O : Type 0} → (O → Type 0) → Item O → Type 0
IsItem is_op (Vector op) = is_op op
IsItem is_op _ = Unit {0}

-- the part of a tap that an item loads is there
abbrev pub IsLoad : {O : Type 0} → List ℕ → Item O → Type 0
IsLoad widths (TapLoad to tap part) = (tap < length widths) × (part < slice_index widths tap)
IsLoad widths _ = Unit {0}

module _ {O : Type 0} (t : Table O) (taps : List (List ℕ)) where
  pub items_run-append : (a b : List (Item O)) (s : Bench) → items_run t taps (a ++ b) s ≡ items_run t taps b (items_run t taps a s)
  items_run-append [] b s = refl
  items_run-append (item ∷ a) b s = items_run-append a b (item_step t taps item s)

  -- other registers hold what they held
  pub item_frame : (item : Item O) (b : Bench) (r : Reg) → (Contains (item_defs t item) r → ⊥) → read (item_step t taps item b).file r ≡ read b.file r
  item_frame (Vector op) b r none = changes_defs t op b.file r none
  item_frame (TapLoad to tap part) b r none = write_kept b.file (V to) r _ (λ e. none (0, omega arith, e))
  item_frame (OutStore from part) b r none = refl
  item_frame (SlotLoad to slot) b r none = write_kept b.file (V to) r _ (λ e. none (0, omega arith, e))
  item_frame (SlotStore from slot) b r none = refl

  pub items_frame : (items : List (Item O)) (b : Bench) (r : Reg) → All (λ item. Contains (item_defs t item) r → ⊥) items
      → read (items_run t taps items b).file r ≡ read b.file r
  items_frame [] b r none = refl
  items_frame (item ∷ more) b r none =
      items_frame more (item_step t taps item b) r (All-tail (λ item. Contains (item_defs t item) r → ⊥) item more none)
      ∙ item_frame item b r (All-head (λ item. Contains (item_defs t item) r → ⊥) item more none)

-- registers and slots hold bytes
pub record IsBench {O : Type 0} (t : Table O) (names slots : ℕ) (b : Bench) : Type 0 where
  pub file : IsFile t names b.file
  pub slots_are : AreSlots t.vector slots b.slots

module _ {O : Type 0} (t : Table O) (is_op : O → Type 0) (laws : IsTable t is_op) (widths : List ℕ) (names slots : ℕ) (taps : List (List ℕ)) (taps_are : AreTaps t.vector widths taps) where
  tap_part_are : (tap part : ℕ) → tap < length widths → part < slice_index widths tap
      → AreBytes t.vector (take t.vector (drop (t.vector * part) (slice_index_or taps tap [])))
  tap_part_are tap part known inside =
      let whole = taps_are.each tap known in
      let room : t.vector * part + t.vector ≤ t.vector * slice_index widths tap = column_fits t.vector part t.vector (slice_index widths tap) inside (omega arith) in
      let turned : t.vector * slice_index widths tap ≡ slice_index widths tap * t.vector = mul_comm t.vector (slice_index widths tap) in
      part_are (t.vector * part) t.vector (slice_index_or taps tap []) (omega arith) whole.small

  pub bench_after : (item : Item O) (b : Bench) → IsItem is_op item → IsWithin t names slots item → IsLoad widths item → IsBench t names slots b
      → IsBench t names slots (item_step t taps item b)
  bench_after (Vector op) b one within load is =
      let file = is.file in
      let count = file.count in
      let can : CanRun t op b.file = record {
        computes = within.0;
        uses = rw count within.1;
        defs = rw count within.2;
        file = rw count file;
      } in
      record { file = rw count at (laws.sized op b.file one can); slots_are = is.slots_are }
  bench_after (TapLoad to tap part) b one within load is =
      record { file = file_with t names b.file is.file to _ (tap_part_are tap part load.0 load.1); slots_are = is.slots_are }
  bench_after (OutStore from part) b one within load is = record { file = is.file; slots_are = is.slots_are }
  bench_after (SlotLoad to slot) b one within load is =
      let are = is.slots_are in
      let count = are.count in
      let there = within.1 in
      record { file = file_with t names b.file is.file to _ (All-get_or (λ v. AreBytes t.vector v) b.slots slot [] (omega arith) are.each); slots_are = are }
  bench_after (SlotStore from slot) b one within load is =
      let file = is.file in
      let count = file.count in
      let known = within.0 in
      let are = is.slots_are in
      record {
        file = file;
        slots_are = record {
          count = length-set b.slots slot (read b.file (V from)) ∙ are.count;
          each = All-set (λ v. AreBytes t.vector v) b.slots slot (read b.file (V from)) (vector_are t names b.file file from (omega arith)) are.each;
        };
      }

-- a block whose output is a function of the taps is clean
pub clean_from_value : {O : Type 0} (t : Table O) (widths : List ℕ) (names slots parts : ℕ) (block : List (Item O)) (value : List (List ℕ) → List (List ℕ))
    → All (IsWithin t names slots) block
    → ((taps : List (List ℕ)) (f : RegFile) (kept : List (List ℕ)) → AreTaps t.vector widths taps → IsFile t names f → AreSlots t.vector slots kept → BVal t parts block taps f kept ≡ value taps)
    → IsClean t widths names slots parts block
clean_from_value t widths names slots parts block value within is = record {
  within = within;
  same = λ taps f g kept other taps_are f_is g_is kept_are other_are. is taps f kept taps_are f_is kept_are ∙ sym (is taps g other taps_are g_is other_are);
}
