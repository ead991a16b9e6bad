-- A row's program may have the blocks that are made by hand.
use Rattle.std.proofs.Common.{◌≡◌, ℕ, zero, suc, ◌<◌, ◌≤◌, List, [], ◌∷◌, length, get_or, All, Bool, refl, arith, ap, sym, ◌∙◌, rules}
use Rattle.std.specs.Prelude.{replicate, slice_get, Some}
use Rattle.std.proofs.lemmas.List.{get_or-map, length-map}
use Rattle.std.proofs.lemmas.List.Elements.{All-from_recursion}
use Rattle.std.proofs.lemmas.Option.{get_or_from_slice_get, slice_get_within}
use Rattle.pf_values.specs.declared.kernel.ImageDecl.{ImageDecl}
use Rattle.pf_values.specs.declared.names.Tap.{Tap}
use Rattle.pf_values.specs.Meaning.NamedTerms.{no_tap}
use Rattle.pf_machine.specs.declared.block.Item.{Item}
use Rattle.pf_machine.specs.declared.program.Head.{Head}
use Rattle.pf_machine.specs.declared.registers.RegFile.{RegFile}
use Rattle.pf_machine.specs.Meaning.Blocks.{BVal, IsClean, IsWithin}
use Rattle.pf_machine.specs.Meaning.Heads.{IsHead}
use Rattle.pf_machine.specs.Meaning.Runs.{pixel_bytes}
use Rattle.pf_tables.specs.declared.instruction.Instruction.{Instruction}
use Rattle.pf_neon.specs.Meaning.Rows.{row_at}
use Rattle.pf_neon.specs.Meaning.Neon.{table, IsNeonInstruction}
use Rattle.pf_rows.specs.Meaning.BlockRows.{IsRowBlock, IsBlockItem, StoresEach, tap_widths}
use Rattle.pf_values.specs.Meaning.Kernels.{no_decl}
use Rattle.pf_machine_tests.specs.Steps.RowBlocks.{copy_block, least_block, lesser}

pub is_listed : (to left right : ℕ) → IsNeonInstruction (lesser to left right)
unfolding row_at
is_listed to left right = record { inside = omega arith; shape = refl; numbers = refl }

abbrev zeros : RegFile
zeros = record { vectors = [] ∷ [] ∷ [] ∷ [] ∷ []; k = 0; q = [] }

-- what a block stores from any registers and slots, it stores from these
abbrev IsFixed : (slots parts : ℕ) → List (Item Instruction) → Type 0
IsFixed slots parts block =
    (taps : List (List ℕ)) (vectors : List (List ℕ)) (k : ℕ) (q : List Bool) (kept : List (List ℕ)) → length vectors ≡ 32 → length kept ≡ slots
    → BVal table parts block taps (record { vectors = vectors; k = k; q = q }) kept ≡ BVal table parts block taps zeros (replicate slots [])

copy_fixed : IsFixed 0 2 copy_block
copy_fixed taps [] k q kept long none = absurd (omega arith)
copy_fixed taps (_ ∷ []) k q kept long none = absurd (omega arith)
copy_fixed taps (_ ∷ _ ∷ []) k q kept long none = absurd (omega arith)
copy_fixed taps (_ ∷ _ ∷ _ ∷ []) k q kept long none = absurd (omega arith)
copy_fixed taps (a ∷ b ∷ c ∷ d ∷ more) k q kept long none = refl

least_fixed : IsFixed 2 1 least_block
least_fixed taps [] k q kept long two = absurd (omega arith)
least_fixed taps (_ ∷ []) k q kept long two = absurd (omega arith)
least_fixed taps (_ ∷ _ ∷ []) k q kept long two = absurd (omega arith)
least_fixed taps (_ ∷ _ ∷ _ ∷ []) k q kept long two = absurd (omega arith)
least_fixed taps (a ∷ b ∷ c ∷ d ∷ more) k q [] long two = absurd (omega arith)
least_fixed taps (a ∷ b ∷ c ∷ d ∷ more) k q (_ ∷ []) long two = absurd (omega arith)
least_fixed taps (a ∷ b ∷ c ∷ d ∷ more) k q (s ∷ t ∷ []) long two = refl
least_fixed taps (a ∷ b ∷ c ∷ d ∷ more) k q (_ ∷ _ ∷ _ ∷ _) long two = absurd (omega arith)

clean : (widths : List ℕ) (slots parts : ℕ) (block : List (Item Instruction)) → IsFixed slots parts block
    → All (IsWithin table 32 slots) block → IsClean table widths 32 slots parts block
clean widths slots parts block fixed within = record {
  within = within;
  same = λ taps f g kept other taps_are f_is g_is kept_are other_are.
      fixed taps f.vectors f.k f.q kept f_is.count kept_are.count ∙ sym (fixed taps g.vectors g.k g.q other g_is.count other_are.count);
}

copy_within : All (IsWithin table 32 0) copy_block
copy_within = All-from_recursion (IsWithin table 32 0) copy_block (search rules)

least_within : All (IsWithin table 32 2) least_block
least_within = All-from_recursion (IsWithin table 32 2) least_block (search rules)

copy_steps : (widths : List ℕ) → 1 ≤ length widths → 1 < get_or widths 0 0 → All (IsBlockItem widths 2) copy_block
copy_steps widths some wide =
    All-from_recursion (IsBlockItem widths 2) copy_block ((omega arith, omega arith), (omega arith, ((omega arith, omega arith), (omega arith, tt))))

least_steps : (widths : List ℕ) → 17 ≤ length widths → 0 < get_or widths 0 0 → 0 < get_or widths 15 0 → 0 < get_or widths 16 0
    → All (IsBlockItem widths 1) least_block
least_steps widths many first second third =
    All-from_recursion (IsBlockItem widths 1) least_block
    ((omega arith, omega arith), (tt, ((omega arith, omega arith), (tt, (tt, (tt, (tt, ((omega arith, omega arith), (tt, (omega arith, tt))))))))))

copy_stores : StoresEach 2 copy_block
copy_stores zero inside = refl
copy_stores (suc zero) inside = refl
copy_stores (suc (suc part)) inside = absurd (omega arith)

least_stores : StoresEach 1 least_block
least_stores zero inside = refl
least_stores (suc part) inside = absurd (omega arith)

-- the bytes of a tap's pixels
pub tap_width_is : (h : Head) (n : ℕ) (t : Tap) (d : ImageDecl) → slice_get h.taps n ≡ Some t → slice_get h.images t.image ≡ Some d
    → get_or (tap_widths h) n 0 ≡ pixel_bytes d.ty
tap_width_is h n t d tap image =
    get_or-map (λ u. pixel_bytes (get_or h.images u.image no_decl).ty) h.taps n no_tap 0 (slice_get_within h.taps n t tap)
    ∙ ap (λ u. pixel_bytes (get_or h.images u.image no_decl).ty) (get_or_from_slice_get h.taps n t no_tap tap)
    ∙ ap (λ e. pixel_bytes e.ty) (get_or_from_slice_get h.images t.image d no_decl image)

width_count : (h : Head) → length (tap_widths h) ≡ length h.taps
width_count h = length-map h.taps (λ t. pixel_bytes (get_or h.images t.image no_decl).ty)

pub copy_is_row_block : (h : Head) → IsHead h → length h.taps ≡ 1 → h.scratch ≡ 192 → pixel_bytes h.out_ty ≡ 2 → get_or (tap_widths h) 0 0 ≡ 2
    → (slots : ℕ) × IsRowBlock table h slots copy_block
copy_is_row_block h head one scratch out wide =
    let count : length (tap_widths h) ≡ 1 = width_count h ∙ one in (
      0,
      record {
        head = head;
        scratch = rw (one, scratch) refl;
        clean = rw out (clean (tap_widths h) 0 2 copy_block copy_fixed copy_within);
        steps = rw out (copy_steps (tap_widths h) (omega arith) (omega arith));
        stores = rw out copy_stores;
      },
    )

pub least_is_row_block : (h : Head) → IsHead h → length h.taps ≡ 17 → h.scratch ≡ 864 → pixel_bytes h.out_ty ≡ 1
    → get_or (tap_widths h) 0 0 ≡ 1 → get_or (tap_widths h) 15 0 ≡ 1 → get_or (tap_widths h) 16 0 ≡ 2
    → (slots : ℕ) × IsRowBlock table h slots least_block
least_is_row_block h head many scratch out first second third =
    let count : length (tap_widths h) ≡ 17 = width_count h ∙ many in (
      2,
      record {
        head = head;
        scratch = rw (many, scratch) refl;
        clean = rw out (clean (tap_widths h) 2 1 least_block least_fixed least_within);
        steps = rw out (least_steps (tap_widths h) (omega arith) (omega arith) (omega arith) (omega arith));
        stores = rw out least_stores;
      },
    )
