-- What the steps between a syntax tree and its term say.
use Rattle.std.specs.Prelude.{◌≡◌, ℕ, ◌<◌, ℤ, pos, Bool, true, false, ◌&&◌, ◌||◌, not, nat_le, unsigned_abs, List, length, slice_index_or, zero, suc, Option, Some, None, if◌then◌else◌, nat_lt, Result, Ok, Err}
use Rattle.pf_ints.specs.declared.lane.LaneType.{LaneType}
use Rattle.pf_ints.specs.Meaning.Lanes.{is_in}
use Rattle.pf_terms.specs.declared.parse.syntax_tree.SyntaxTree.{SyntaxTree}
use Rattle.pf_terms.specs.declared.parse.syntax_tree.SyntaxTree.TheVariants.{Node as NodeTree}
use Rattle.pf_terms.specs.declared.parse.syntax_tree.SyntaxTree.TheOpen.{SyntaxTree-F}
use Rattle.pf_terms.specs.declared.parse.syntax_tree.SyntaxTree.TheOpen.SyntaxTree-F.{Number, Name, Tap as TapTree, Node}
use Rattle.pf_terms.specs.declared.parse.syntax_tree.SyntaxTree.TheFolds.{fold-SyntaxTree}
use Rattle.pf_values.specs.declared.fault.TermFault.{TermFault}
use Rattle.pf_values.specs.declared.fault.TermFault.TheVariants.{Types as TypesAt, Amount as AmountAt}
use Rattle.pf_terms.specs.declared.meaning.ReadFault.{ReadFault}
use Rattle.pf_terms.specs.declared.meaning.ReadFault.TheVariants.{Types as TypesRead, Amount as AmountRead, Limit as LimitRead, Memory as MemoryRead}
use Rattle.pf_values.specs.declared.limit.LimitKind.TheVariants.{Taps, Offset}
use Rattle.pf_terms.specs.declared.resolve.NodeFault.{NodeFault}
use Rattle.pf_terms.specs.declared.resolve.NodeFault.TheVariants.{Types, Amount, Memory}
use Rattle.pf_values.specs.declared.names.Names.{Names}
use Rattle.pf_values.specs.declared.names.Tap.{Tap}
use Rattle.pf_values.specs.declared.op.Op.{Op}
use Rattle.pf_values.specs.declared.term.Term.{Term}
use Rattle.pf_terms.specs.Meaning.KernelNames.{IsTapOffset}
use Rattle.pf_terms.specs.Meaning.Meanings.{IsMeaningFault, term_of}
use Rattle.pf_values.specs.Meaning.Operators.{row_of}
use Rattle.pf_values.specs.Meaning.Terms.{all_true, is_formed_node, stated_type, typing}

abbrev pub formed_tree_step : SyntaxTree-F Bool → Bool
formed_tree_step (Number n t) = is_in t n
formed_tree_step (Name s) = true
formed_tree_step (TapTree s dx dy) = true
formed_tree_step (Node op less ty k args) = is_formed_node (row_of op) (unsigned_abs k) (length args) && (not less || nat_le 2 (length args)) && all_true args

-- each number lies in its type, and each operator has as many operands as its row says
abbrev pub is_formed_tree : SyntaxTree → Bool
is_formed_tree = fold-SyntaxTree Bool formed_tree_step

-- the place in the text of operand n of the term
abbrev pub place_in_order : Bool → ℕ → ℕ
place_in_order true zero = 1
place_in_order true (suc zero) = 0
place_in_order _ n = n

-- the names with other taps
abbrev pub with_these : Names → List Tap → Names
with_these names taps = record names { taps = taps }

-- the syntax tree is no node
abbrev pub leaf_step : SyntaxTree-F Bool → Bool
leaf_step (Node op less ty k args) = false
leaf_step _ = true

abbrev pub IsLeaf : SyntaxTree → Type 0
IsLeaf d = fold-SyntaxTree Bool leaf_step d ≡ true

-- the first operand of the term that the node is read as
pub record IsFirst (node first : SyntaxTree) : Type 0 where
  pub op : Op
  pub less : Bool
  pub ty : Option LaneType
  pub k : ℤ
  pub args : List SyntaxTree
  pub is : node ≡ NodeTree op less ty k args
  pub some : 0 < length args
  pub at : first ≡ slice_index_or args (place_in_order less 0) first

-- the term is that of the node's first operand, which has its type
pub record IsResolvedFirst (names : Names) (taps : List Tap) (node : SyntaxTree) (t : Term) : Type 0 where
  pub tree : SyntaxTree
  pub first : IsFirst node tree
  pub made : t ≡ term_of (with_these names taps) tree
  pub typed : (others : List Tap) → typing (term_of (with_these names others) tree) ≡ Ok (stated_type t)

-- offsets that a tap may have
pub record HasNearOffsets (t : Tap) : Type 0 where
  pub across : IsTapOffset t.dx
  pub down : IsTapOffset t.dy

-- a fault is that of a node
abbrev pub IsNodeFault : Result LaneType TermFault → NodeFault → Type 0
IsNodeFault told (Types want got) = (path : List ℕ) × (told ≡ Err (TypesAt path want got))
IsNodeFault told (Amount k) = (path : List ℕ) × (told ≡ Err (AmountAt path (pos k)))
IsNodeFault told Memory = Unit {0}

-- a node's fault as the reader of terms tells it
abbrev pub told_as : NodeFault → ReadFault
told_as (Types want got) = TypesRead want got
told_as (Amount k) = AmountRead (pos k)
told_as Memory = MemoryRead

-- the limit of taps or of offsets that is passed first
abbrev pub past_offset : Option ℤ → Option ReadFault
past_offset (Some n) = Some (LimitRead Offset n)
past_offset None = None

abbrev pub past_limit : ℕ → Option ℤ → Option ReadFault
past_limit taps far = if nat_lt 64 taps then Some (LimitRead Taps (pos taps)) else past_offset far

-- what is found at a node is its type or its fault, unless memory was wanting
abbrev pub IsFound : Result LaneType TermFault → Result LaneType NodeFault → Type 0
IsFound told (Ok t) = told ≡ Ok t
IsFound told (Err fault) = IsNodeFault told fault

abbrev pub IsBuilt : Result LaneType TermFault → Result Term NodeFault → Type 0
IsBuilt told (Ok t) = told ≡ Ok (stated_type t)
IsBuilt told (Err fault) = IsNodeFault told fault

-- the syntax tree means nothing, and this is its first fault, unless memory was wanting
abbrev pub IsFaultOrMemory : Names → SyntaxTree → ReadFault → Type 0
IsFaultOrMemory names d MemoryRead = Unit {0}
IsFaultOrMemory names d fault = IsMeaningFault names d fault
