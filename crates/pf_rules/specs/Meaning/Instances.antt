-- The term that a pattern is with terms in place of its variables.
use Rattle.std.specs.Prelude.{◌≡◌, ℕ, ℤ, pos, List, [], ◌∷◌, map, slice_get, Option, Some, None, option_and_then, option_map}
use Rattle.pf_ints.specs.declared.lane.LaneType.{LaneType}
use Rattle.pf_values.specs.declared.op.Op.{Op}
use Rattle.pf_values.specs.declared.term.Env.{Env}
use Rattle.pf_values.specs.declared.term.Leaf.TheVariants.{Const as Number}
use Rattle.pf_values.specs.declared.term.Term.{Term}
use Rattle.pf_values.specs.declared.term.Term.TheVariants as term
use Rattle.pf_values.specs.Meaning.Terms.{Val, stated_type, IsWellTyped}
use Rattle.pf_rules.specs.declared.instances.Binding.{Binding}
use Rattle.pf_rules.specs.declared.pattern.Pattern.{Pattern}
use Rattle.pf_rules.specs.declared.pattern.Pattern.TheOpen.{Pattern-F}
use Rattle.pf_rules.specs.declared.pattern.Pattern.TheOpen.Pattern-F.{Var, Const, Node, Lane}
use Rattle.pf_rules.specs.declared.pattern.Pattern.TheFolds.{fold-Pattern}
use Rattle.pf_rules.specs.declared.rule.VarDecl.{VarDecl}
use Rattle.pf_rules.specs.Meaning.Numbers.{number_at, amount_at}
use Rattle.pf_rules.specs.Meaning.Sides.{value_or}
use Rattle.pf_rules.specs.Meaning.Sorts.{lane_at, stated_at, op_gives}

-- all of them, where each is there
abbrev pub all_of : {A : Type 0} → List (Option A) → Option (List A)
all_of [] = Some []
all_of (o ∷ os) = option_and_then (λ x. option_map (λ xs. x ∷ xs) (all_of os)) o

abbrev pub number_leaf : Option LaneType → Option ℤ → Option Term
number_leaf (Some ty) (Some n) = Some (term.Leaf (Number n) ty)
number_leaf _ _ = None

-- the node of these operands, whose type is by their types and the stated one
abbrev pub node_over : Op → Option (Option LaneType) → Option ℤ → Option (List Term) → Option Term
node_over op (Some to) (Some (pos k)) (Some ts) = Some (term.Node op (op_gives op to (map stated_type ts)) k ts)
node_over op _ _ _ = None

abbrev pub instance_step : ℕ → ℕ → (ℕ → Option Term) → Pattern-F (Option Term) → Option Term
instance_step w k terms (Var n) = terms n
instance_step w k terms (Const n ty) = number_leaf (lane_at w ty) (number_at w k n)
instance_step w k terms (Node op to amount args) = node_over op (stated_at w to) (amount_at w k amount) (all_of args)
instance_step w k terms (Lane op to amount args) = None

-- the pattern at the width w and the shift k, with a term for each variable; none where a variable has no term, a type, a number or an amount is none
-- there, or a lane operation stands in it
abbrev pub instance_by : ℕ → ℕ → (ℕ → Option Term) → Pattern → Option Term
instance_by w k terms = fold-Pattern (Option Term) (instance_step w k terms)

abbrev pub instance_of : Binding → Pattern → Option Term
instance_of b = instance_by b.w b.k (slice_get b.vars)

-- the pattern with its variables replaced is a well-typed term
pub record HasInstance (b : Binding) (p : Pattern) : Type 0 where
  pub whole : Term
  pub is : instance_of b p ≡ Some whole
  pub typed : IsWellTyped whole

-- each declared variable has a term of its type, and there is no other term
abbrev pub HaveTypes : ℕ → List VarDecl → List Term → Type 0
HaveTypes w [] [] = Unit {0}
HaveTypes w (d ∷ ds) (t ∷ ts) = (lane_at w d.ty ≡ Some (stated_type t)) × HaveTypes w ds ts
HaveTypes w _ _ = ⊥

-- the values of the bound terms, by the variables' numbers
abbrev pub bound_values : Env → Binding → ℕ → ℤ
bound_values env b n = value_or (option_map (Val env) (slice_get b.vars n))
