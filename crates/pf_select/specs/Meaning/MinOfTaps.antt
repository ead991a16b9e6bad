-- The lesser of two taps of u8: the term, the block that computes it, and what its program promises.
use Rattle.std.specs.Prelude.{◌≡◌, ℕ, ◌<◌, List, [], ◌∷◌, length, All, false, slice_index_or}
use Rattle.pf_ints.specs.declared.lane.LaneType.{LaneType}
use Rattle.pf_ints.specs.declared.lane.Bits.TheVariants.{Eight}
use Rattle.pf_ints.specs.Meaning.Images.{Picture}
use Rattle.pf_values.specs.declared.kernel.ImageDecl.{ImageDecl}
use Rattle.pf_values.specs.declared.names.Tap.{Tap as TapOf}
use Rattle.pf_values.specs.declared.op.Op.TheVariants.{Min}
use Rattle.pf_values.specs.declared.term.Leaf.TheVariants.{Tap}
use Rattle.pf_values.specs.declared.term.Term.{Term}
use Rattle.pf_values.specs.declared.term.Term.TheVariants.{Leaf, Node}
use Rattle.pf_values.specs.Meaning.Kernels.{Source, Keeps, Out, no_decl}
use Rattle.pf_machine.specs.declared.block.Item.{Item}
use Rattle.pf_machine.specs.declared.block.Item.TheVariants.{Vector, TapLoad, OutStore}
use Rattle.pf_machine.specs.declared.program.Head.{Head}
use Rattle.pf_machine.specs.Meaning.Heads.{IsHead}
use Rattle.pf_machine.specs.Meaning.Programs.{ProgramOf}
use Rattle.pf_machine.specs.Meaning.Runs.{Places, IsPlaced, Leaves}
use Rattle.pf_tables.specs.declared.instruction.Instruction.{Instruction}
use Rattle.pf_tables.specs.declared.instruction.Instruction.TheVariants.{Binary}
use Rattle.pf_neon.specs.declared.mnemonic.Mnemonic.TheVariants.{Umin16b}
use Rattle.pf_neon.specs.Meaning.Rows.{place}
use Rattle.pf_neon.specs.Meaning.Neon.{table}
use Rattle.pf_rows.specs.Meaning.Scratch.{scratch_bytes}

abbrev pub byte_type : LaneType
byte_type = record { signed = false; bits = Eight }

abbrev pub tap_term : LaneType → ℕ → Term
tap_term ty n = Leaf (Tap n) ty

-- the lesser of two taps
abbrev pub min_term : LaneType → ℕ → ℕ → Term
min_term ty first second = Node Min ty 0 (tap_term ty first ∷ tap_term ty second ∷ [])

-- the kernel that has a head's images and taps, and the lesser of two of the taps as its output
abbrev pub min_source : Head → ℕ → ℕ → Source
min_source h first second = record { images = h.images; taps = h.taps; defs = []; out_ty = byte_type; out = min_term byte_type first second }

-- the taps are pixels of this type
abbrev pub AreTapsOf : LaneType → List ImageDecl → List TapOf → Type 0
AreTapsOf ty images taps = All (λ t. (slice_index_or images t.image no_decl).ty ≡ ty) taps

-- what a kernel says is the lesser of two of its taps, numbers `first` and `second`, and its taps and its output are of u8
pub record IsMinOfTaps (s : Source) (first second : ℕ) : Type 0 where
  pub taps : AreTapsOf byte_type s.images s.taps
  pub defs : s.defs ≡ []
  pub out_ty : s.out_ty ≡ byte_type
  pub out : s.out ≡ min_term byte_type first second

-- the lesser of each two lanes of vectors 0 and 1, in vector 0
abbrev pub least : Instruction
least = Binary (place Umin16b) (record { to = 0; left = 0; right = 1 })

-- both taps are loaded, and the lesser of each two lanes is stored
abbrev pub min_block : (first second : ℕ) → List (Item Instruction)
min_block first second = TapLoad 0 first 0 ∷ TapLoad 1 second 0 ∷ Vector least ∷ OutStore 0 0 ∷ []

-- two taps of a head whose taps and output are of u8, with the scratch that its rows need
pub record HasTaps (h : Head) (first second : ℕ) : Type 0 where
  pub head : IsHead h
  pub out_ty : h.out_ty ≡ byte_type
  pub taps : AreTapsOf byte_type h.images h.taps
  pub scratch : h.scratch ≡ scratch_bytes 16 (length h.taps) 0
  pub first_tap : first < length h.taps
  pub second_tap : second < length h.taps

-- on all images that the kernel asks for, and under every placement, the program leaves the kernel's output
abbrev pub LeavesMin : {I : Type 0} → ProgramOf I Instruction → ℕ → ℕ → Type 0
LeavesMin p first second =
    (pictures : List Picture) → Keeps (min_source p.head first second) pictures
    → (o : Picture) × Out (min_source p.head first second) pictures o × ((at : Places) (scratch output : List ℕ) → IsPlaced p.head pictures at scratch output → Leaves table p pictures at scratch output o)
