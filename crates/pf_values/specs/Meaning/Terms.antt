-- What terms mean, and which are well-formed and well-typed.
use Rattle.std.specs.Prelude.{nat_lt, not, ◌≡◌, ℕ, ℤ, pos, ◌+◌, ◌-◌, ◌*◌, max, Bool, true, false, ◌&&◌, ◌||◌, ◌==◌, nat_le, if◌then◌else◌, List, [], ◌∷◌, length, sum, slice_index_or, Option, Some, None, Result, Ok, Err}
use Rattle.std.specs.Option.{option_or}
use Rattle.pf_ints.specs.declared.lane.LaneType.{LaneType}
use Rattle.pf_ints.specs.declared.lane.Bits.{Bits}
use Rattle.pf_ints.specs.declared.lane.Bits.TheVariants.{Eight, Sixteen, ThirtyTwo}
use Rattle.pf_ints.specs.Meaning.Lanes.{lane_width, is_in}
use Rattle.pf_values.specs.declared.fault.TermFault.{TermFault}
use Rattle.pf_values.specs.declared.fault.TermFault.TheVariants.{Types, Amount, Memory}
use Rattle.pf_values.specs.declared.row.Operands.{Operands}
use Rattle.pf_values.specs.declared.row.Operands.TheVariants.{One, OneSigned, Alike, Narrow, WideFirst, Choice}
use Rattle.pf_values.specs.declared.row.Gives.{Gives}
use Rattle.pf_values.specs.declared.row.Gives.TheVariants.{Stated, First, Unsigned, Twice, SignedTwice, Third}
use Rattle.pf_values.specs.declared.row.Amounts.{Amounts}
use Rattle.pf_values.specs.declared.row.Amounts.TheVariants.{Without, Shift, RoundingShift, Product, RoundingProduct}
use Rattle.pf_values.specs.declared.term.Env.{Env}
use Rattle.pf_values.specs.declared.term.Leaf.{Leaf as LeafOf}
use Rattle.pf_values.specs.declared.term.Leaf.TheVariants.{Tap, Const, Def}
use Rattle.pf_values.specs.declared.term.Term.{Term}
use Rattle.pf_values.specs.declared.term.Term.TheOpen.{Term-F}
use Rattle.pf_values.specs.declared.term.Term.TheOpen.Term-F.{Leaf, Node}
use Rattle.pf_values.specs.declared.term.Term.TheFolds.{fold-Term}
use Rattle.pf_values.specs.Meaning.Operators.{Row, row_of}

-- a leaf's number
abbrev pub leaf_value : Env → LeafOf → ℤ
leaf_value env (Tap n) = slice_index_or env.taps n (pos 0)
leaf_value env (Const n) = n
leaf_value env (Def n) = slice_index_or env.defs n (pos 0)

abbrev pub value_step : Env → Term-F ℤ → ℤ
value_step env (Leaf leaf ty) = leaf_value env leaf
value_step env (Node op ty k args) = (row_of op).value ty k args

-- the value of a term at one pixel
abbrev pub Val : Env → Term → ℤ
Val env = fold-Term ℤ (value_step env)

abbrev pub weight_step : Term-F ℕ → ℕ
weight_step (Leaf leaf ty) = 1
weight_step (Node op ty k args) = (row_of op).weight + sum args

-- the sum of the weights of the nodes; a leaf weighs 1
abbrev pub weight_of : Term → ℕ
weight_of = fold-Term ℕ weight_step

abbrev pub nodes_step : Term-F ℕ → ℕ
nodes_step (Leaf leaf ty) = 1
nodes_step (Node op ty k args) = 1 + sum args

-- how many nodes the term has, leaves included
abbrev pub node_count : Term → ℕ
node_count = fold-Term ℕ nodes_step

abbrev pub greatest_of : List ℕ → ℕ
greatest_of [] = 0
greatest_of (n ∷ ns) = max n (greatest_of ns)

abbrev pub depth_step : Term-F ℕ → ℕ
depth_step (Leaf leaf ty) = 1
depth_step (Node op ty k args) = 1 + greatest_of args

-- 1 for a leaf, and one more than the deepest operand's for a node
abbrev pub depth_of : Term → ℕ
depth_of = fold-Term ℕ depth_step

abbrev pub stated_step : {A : Type 0} → Term-F A → LaneType
stated_step (Leaf leaf ty) = ty
stated_step (Node op ty k args) = ty

-- the type that stands with the term's root
abbrev pub stated_type : Term → LaneType
stated_type = fold-Term LaneType (λ layer. stated_step layer)

-- how many operands there are
abbrev pub operand_count : Operands → ℕ
operand_count One = 1
operand_count OneSigned = 1
operand_count Alike = 2
operand_count Narrow = 2
operand_count WideFirst = 2
operand_count Choice = 4

-- the least and the greatest amount for a first operand of w bits
abbrev pub least_amount : Amounts → ℕ
least_amount Without = 0
least_amount Shift = 0
least_amount RoundingShift = 1
least_amount Product = 0
least_amount RoundingProduct = 1

abbrev pub greatest_amount : Amounts → ℕ → ℕ
greatest_amount Without w = 0
greatest_amount Shift w = w - 1
greatest_amount RoundingShift w = w - 1
greatest_amount Product w = 2 * w - 1
greatest_amount RoundingProduct w = 2 * w - 1

abbrev pub has_amount : Amounts → Bool
has_amount Without = false
has_amount Shift = true
has_amount RoundingShift = true
has_amount Product = true
has_amount RoundingProduct = true

-- the number is a member of the type
abbrev pub all_true : List Bool → Bool
all_true [] = true
all_true (b ∷ bs) = b && all_true bs

abbrev pub is_formed_leaf : LeafOf → LaneType → Bool
is_formed_leaf (Tap n) ty = true
is_formed_leaf (Const n) ty = is_in ty n
is_formed_leaf (Def n) ty = true

-- the node has as many operands as its operator, and the amount 0 where that has none
abbrev pub is_formed_node : Row → ℕ → ℕ → Bool
is_formed_node r k count = (count == operand_count r.operands) && ((k == 0) || has_amount r.amounts)

abbrev pub formed_step : Term-F Bool → Bool
formed_step (Leaf leaf ty) = is_formed_leaf leaf ty
formed_step (Node op ty k args) = is_formed_node (row_of op) k (length args) && all_true args

-- each node is so formed, and each constant lies in its type
abbrev pub is_well_formed : Term → Bool
is_well_formed = fold-Term Bool formed_step

-- a type's width doubled and halved, where that is a type
abbrev pub doubled : Bits → Bits
doubled Eight = Sixteen
doubled Sixteen = ThirtyTwo
doubled ThirtyTwo = ThirtyTwo

abbrev pub halved : Bits → Bits
halved Eight = Eight
halved Sixteen = Eight
halved ThirtyTwo = Sixteen

-- the nearest type of 8 or 16 bits, and of 16 or 32 bits
abbrev pub at_most_sixteen : Bits → Bits
at_most_sixteen Eight = Eight
at_most_sixteen Sixteen = Sixteen
at_most_sixteen ThirtyTwo = Sixteen

abbrev pub at_least_sixteen : Bits → Bits
at_least_sixteen Eight = Sixteen
at_least_sixteen Sixteen = Sixteen
at_least_sixteen ThirtyTwo = ThirtyTwo

abbrev pub typed_as : Bool → Bits → LaneType
typed_as signed bits = record { signed = signed; bits = bits }

-- the type that each operand has to have, by the types that they have
abbrev pub wanted : Operands → List LaneType → List LaneType
wanted One (t ∷ _) = t ∷ []
wanted OneSigned (t ∷ _) = typed_as true t.bits ∷ []
wanted Alike (t ∷ _) = t ∷ t ∷ []
wanted Narrow (t ∷ _) = typed_as t.signed (at_most_sixteen t.bits) ∷ t ∷ []
wanted WideFirst (t ∷ _) = typed_as t.signed (at_least_sixteen t.bits) ∷ typed_as t.signed (halved t.bits) ∷ []
wanted Choice (a ∷ b ∷ x ∷ _) = a ∷ a ∷ typed_as x.signed a.bits ∷ x ∷ []
wanted _ _ = []

-- the type of the result, by the stated type and the operands' types
abbrev pub result_type : Gives → LaneType → List LaneType → LaneType
result_type Stated ty _ = ty
result_type First _ (t ∷ _) = t
result_type Unsigned _ (t ∷ _) = typed_as false t.bits
result_type Twice _ (t ∷ _) = typed_as t.signed (doubled t.bits)
result_type SignedTwice _ (t ∷ _) = typed_as true (doubled t.bits)
result_type Third _ (a ∷ b ∷ x ∷ _) = x
result_type _ ty _ = ty

abbrev pub same_bits : Bits → Bits → Bool
same_bits Eight Eight = true
same_bits Sixteen Sixteen = true
same_bits ThirtyTwo ThirtyTwo = true
same_bits _ _ = false

abbrev pub same_bool : Bool → Bool → Bool
same_bool true b = b
same_bool false b = not b

abbrev pub same_type : LaneType → LaneType → Bool
same_type t u = same_bool t.signed u.signed && same_bits t.bits u.bits

-- the first place where the types differ, as the wanted and the got one
abbrev pub first_difference : List LaneType → List LaneType → Option (LaneType × LaneType)
first_difference (w ∷ ws) (g ∷ gs) = if same_type w g then first_difference ws gs else Some (w, g)
first_difference _ _ = None

-- what is found at a node: its own fault, or its type
abbrev pub unless_differs : Option (LaneType × LaneType) → Bool → LaneType → ℕ → Result LaneType TermFault
unless_differs (Some p) fits ty k = Err (Types [] p.0 p.1)
unless_differs None true ty k = Ok ty
unless_differs None false ty k = Err (Amount [] (pos k))

-- the bits of the first operand
abbrev pub first_width : List LaneType → ℕ
first_width [] = 0
first_width (t ∷ _) = lane_width t

abbrev pub is_amount : Amounts → ℕ → ℕ → Bool
is_amount a w k = nat_le (least_amount a) k && nat_le k (greatest_amount a w)

-- the operand's type, or else the stated type, that isn't the wanted one
abbrev pub type_fault : Row → LaneType → List LaneType → Option (LaneType × LaneType)
type_fault r ty types =
    option_or (first_difference (wanted r.operands types) types) (first_difference (result_type r.gives ty types ∷ []) (ty ∷ []))

abbrev pub node_type : Row → LaneType → ℕ → List LaneType → Result LaneType TermFault
node_type r ty k types = unless_differs (type_fault r ty types) (is_amount r.amounts (first_width types) k) ty k

-- the fault as the parent of its child n tells it
abbrev pub fault_below : ℕ → TermFault → TermFault
fault_below n (Types path want got) = Types (n ∷ path) want got
fault_below n (Amount path amount) = Amount (n ∷ path) amount
fault_below n Memory = Memory

abbrev pub with_type : LaneType → Result (List LaneType) TermFault → Result (List LaneType) TermFault
with_type t (Ok ts) = Ok (t ∷ ts)
with_type t (Err e) = Err e

-- the operands' types, or the first operand's fault, the first of them being child n
abbrev pub types_from : ℕ → List (Result LaneType TermFault) → Result (List LaneType) TermFault
types_from n [] = Ok []
types_from n (Ok t ∷ rs) = with_type t (types_from (n + 1) rs)
types_from n (Err e ∷ rs) = Err (fault_below n e)

abbrev pub then_node : Row → LaneType → ℕ → Result (List LaneType) TermFault → Result LaneType TermFault
then_node r ty k (Ok types) = node_type r ty k types
then_node r ty k (Err e) = Err e

abbrev pub typing_step : Term-F (Result LaneType TermFault) → Result LaneType TermFault
typing_step (Leaf leaf ty) = Ok ty
typing_step (Node op ty k args) = then_node (row_of op) ty k (types_from 0 args)

-- the term's type, or the fault of the first node in post-order that has one; at one node types are told before the amount
abbrev pub typing : Term → Result LaneType TermFault
typing = fold-Term (Result LaneType TermFault) typing_step

-- well-formed, and each node is as the table says
pub record IsWellTyped (t : Term) : Type 0 where
  pub formed : is_well_formed t ≡ true
  pub typed : typing t ≡ Ok (stated_type t)

-- what the leaf stands for is there, and lies in the leaf's type
abbrev pub is_env_leaf : Env → LeafOf → LaneType → Bool
is_env_leaf env (Tap n) ty = nat_lt n (length env.taps) && is_in ty (slice_index_or env.taps n (pos 0))
is_env_leaf env (Const n) ty = true
is_env_leaf env (Def n) ty = nat_lt n (length env.defs) && is_in ty (slice_index_or env.defs n (pos 0))

abbrev pub env_step : Env → Term-F Bool → Bool
env_step env (Leaf leaf ty) = is_env_leaf env leaf ty
env_step env (Node op ty k args) = all_true args

-- the environment has a number of the right type for each leaf of the term
abbrev pub is_env_of : Env → Term → Bool
is_env_of env = fold-Term Bool (env_step env)

-- the answer of a call that may want memory and else tells the term's type or its fault
abbrev pub TypesAs : Result LaneType TermFault → Result LaneType TermFault → Type 0
TypesAs (Ok t) told = told ≡ Ok t
TypesAs (Err Memory) told = Unit {0}
TypesAs (Err (Types path want got)) told = told ≡ Err (Types path want got)
TypesAs (Err (Amount path amount)) told = told ≡ Err (Amount path amount)
