-- What a term keeps when its operands or itself are replaced.
use Rattle.std.proofs.Common.{◌≡◌, refl, sym, ap, ◌∙◌, subst, ℕ, zero, suc, ◌+◌, ◌<◌, ◌≤◌, ℤ, Bool, true, false, List, [], ◌∷◌, ◌++◌, length, map, Option, Some, None, Ok, arith}
use Rattle.std.specs.Prelude.{slice_get, sum}
use Rattle.std.proofs.lemmas.Bool.{and_parts}
use Rattle.pf_ints.specs.declared.lane.LaneType.{LaneType}
use Rattle.pf_values.specs.declared.op.Op.{Op}
use Rattle.pf_values.specs.declared.term.Env.{Env}
use Rattle.pf_values.specs.declared.term.Leaf.{Leaf as LeafOf}
use Rattle.pf_values.specs.declared.term.Leaf.TheVariants.{Tap, Const, Def}
use Rattle.pf_values.specs.declared.term.Term.{Term, out-Term, out-roll-Term}
use Rattle.pf_values.specs.declared.term.Term.TheVariants.{Leaf, Node, rolls-Leaf, rolls-Node}
use Rattle.pf_values.specs.declared.term.Term.TheOpen.{Term-F}
use Rattle.pf_values.specs.declared.term.Term.TheOpen.Term-F.{Leaf as LeafLayer, Node as NodeLayer}
use Rattle.pf_values.specs.Meaning.Operators.{row_of}
use Rattle.pf_values.specs.Meaning.Terms.{all_true, stated_type, Val, IsWellTyped, node_type, operand_count}
use Rattle.pf_values.proofs.TermRanges.{AreTyped, typed_node, stated_node, value_node}
use Rattle.pf_bounds.specs.declared.ranges.Ranges.{Ranges}
use Rattle.pf_bounds.specs.Meaning.TermBounds.{operands, operands_step, part_of, IsWithin, are_ranges_of}
use Rattle.pf_bounds.proofs.PlaceLaws.{operands_node}
use Rattle.pf_bounds.proofs.TermLaws.{ranged_node}
use Rattle.pf_rules.proofs.InstanceLaws.{Each}
use Rattle.pf_rules.proofs.InstanceTerms.{node_typed}
use Rattle.pf_lift.specs.Meaning.Lifted.{IsInput, HasLeaf, KeepsInputs, Keeps}
use Rattle.pf_lift.proofs.Lists.{each_get, each_from, part_below, part_at}

-- ---- leaves and nodes

pub leaf_operands : (leaf : LeafOf) (ty : LaneType) → operands (Leaf leaf ty) ≡ []
leaf_operands leaf ty = ap operands (sym (rolls-Leaf leaf ty)) ∙ ap operands_step (out-roll-Term (LeafLayer leaf ty))

abbrev is_leaf_layer : {A : Type 0} → Term-F A → Bool
is_leaf_layer (LeafLayer leaf ty) = true
is_leaf_layer (NodeLayer op ty k args) = false

abbrev leaf_of : {A : Type 0} → LeafOf → Term-F A → LeafOf
leaf_of d (LeafLayer leaf ty) = leaf
leaf_of d (NodeLayer op ty k args) = d

no_leaf_node : (op : Op) (ty u : LaneType) (k : ℕ) (args : List Term) (leaf : LeafOf) → Node op ty k args ≡ Leaf leaf u → ⊥
no_leaf_node op ty u k args leaf e =
    let node : is_leaf_layer (out-Term (Node op ty k args)) ≡ false = ap (λ t. is_leaf_layer (out-Term t)) (sym (rolls-Node op ty k args)) ∙ ap is_leaf_layer (out-roll-Term (NodeLayer op ty k args)) in
    let one : is_leaf_layer (out-Term (Leaf leaf u)) ≡ true = ap (λ t. is_leaf_layer (out-Term t)) (sym (rolls-Leaf leaf u)) ∙ ap is_leaf_layer (out-roll-Term (LeafLayer leaf u)) in
    let both : false ≡ true = sym node ∙ ap (λ t. is_leaf_layer (out-Term t)) e ∙ one in
    cc both

leaf_is : (leaf d : LeafOf) (ty : LaneType) → leaf_of d (out-Term (Leaf leaf ty)) ≡ leaf
leaf_is leaf d ty = ap (λ t. leaf_of d (out-Term t)) (sym (rolls-Leaf leaf ty)) ∙ ap (leaf_of d) (out-roll-Term (LeafLayer leaf ty))

-- ---- inputs

pub inputs_same : (t : Term) → KeepsInputs t t
inputs_same t leaf ty input h = h

pub inputs_after : (t u v : Term) → KeepsInputs t u → KeepsInputs u v → KeepsInputs t v
inputs_after t u v h k leaf ty input x = h leaf ty input (k leaf ty input x)

-- the inputs of an operand are the node's
pub inputs_down : (t : Term) (op : Op) (ty : LaneType) (k : ℕ) (ts : List Term) → KeepsInputs t (Node op ty k ts) → Each (KeepsInputs t) ts
inputs_down t op ty k ts h = each_from (KeepsInputs t) ts (λ i x at leaf u input has.
    h leaf u input (i ∷ has.0, part_at (Node op ty k ts) i has.0 (Leaf leaf u) x (ap (λ xs. slice_get xs i) (operands_node (Node op ty k ts) op ty k ts refl) ∙ at) has.1))

pub inputs_up : (t : Term) (op : Op) (ty : LaneType) (k : ℕ) (ts : List Term) → Each (KeepsInputs t) ts → KeepsInputs t (Node op ty k ts)
inputs_up t op ty k ts each leaf u input has = by has.0 has.1
  where
    by : (path : List ℕ) → part_of (Node op ty k ts) path ≡ Some (Leaf leaf u) → HasLeaf t leaf u
    by [] e = let is : Node op ty k ts ≡ Leaf leaf u = cc e in absurd (no_leaf_node op ty u k ts leaf is)
    by (i ∷ path) e =
        let below = part_below (Node op ty k ts) i path (Leaf leaf u) e in
        let at : slice_get ts i ≡ Some below.0 = sym (ap (λ xs. slice_get xs i) (operands_node (Node op ty k ts) op ty k ts refl)) ∙ below.1 in
        each_get (KeepsInputs t) ts i below.0 each at leaf u input (path, below.2)

pub inputs_number : (t : Term) (n : ℤ) (ty : LaneType) → KeepsInputs t (Leaf (Const n) ty)
inputs_number t n ty leaf u input has = by has.0 has.1
  where
    no_input : (l : LeafOf) → Const n ≡ l → IsInput l → HasLeaf t leaf u
    no_input l e i = absurd (subst IsInput (sym e) i)

    by : (path : List ℕ) → part_of (Leaf (Const n) ty) path ≡ Some (Leaf leaf u) → HasLeaf t leaf u
    by [] e =
        let is : Leaf (Const n) ty ≡ Leaf leaf u = cc e in
        no_input leaf (sym (leaf_is (Const n) leaf ty) ∙ ap (λ s. leaf_of leaf (out-Term s)) is ∙ leaf_is leaf leaf u) input
    by (i ∷ path) e =
        let below = part_below (Leaf (Const n) ty) i path (Leaf leaf u) e in
        let none : None ≡ Some below.0 = sym (ap (λ xs. slice_get xs i) (leaf_operands (Const n) ty)) ∙ below.1 in
        absurd (cc none)

-- ---- ranges of leaves

pub ranged_down : (ranges : Ranges) (op : Op) (ty : LaneType) (k : ℕ) (ts : List Term) → are_ranges_of ranges (Node op ty k ts) ≡ true → Each (λ x. are_ranges_of ranges x ≡ true) ts
ranged_down ranges op ty k ts h = by ts (sym (ranged_node ranges op ty k ts) ∙ h)
  where
    by : (xs : List Term) → all_true (map (are_ranges_of ranges) xs) ≡ true → Each (λ x. are_ranges_of ranges x ≡ true) xs
    by [] e = tt
    by (x ∷ xs) e = let both = and_parts (are_ranges_of ranges x) (all_true (map (are_ranges_of ranges) xs)) e in (both.0, by xs both.1)

pub ranged_up : (ranges : Ranges) (op : Op) (ty : LaneType) (k : ℕ) (ts : List Term) → Each (λ x. are_ranges_of ranges x ≡ true) ts → are_ranges_of ranges (Node op ty k ts) ≡ true
ranged_up ranges op ty k ts h = ranged_node ranges op ty k ts ∙ by ts h
  where
    by : (xs : List Term) → Each (λ x. are_ranges_of ranges x ≡ true) xs → all_true (map (are_ranges_of ranges) xs) ≡ true
    by [] e = refl
    by (x ∷ xs) e = rw (e.0, by xs e.1) refl

pub typed_each : (ts : List Term) → AreTyped ts → Each IsWellTyped ts
typed_each [] h = tt
typed_each (t ∷ ts) h = (h.0, typed_each ts h.1)

-- ---- terms that stand for others

pub keeps_same : (ranges : Ranges) (t : Term) → IsWellTyped t → Keeps ranges t t
keeps_same ranges t typed = record { typed = typed; stated = refl; value = λ env within. refl; inputs = inputs_same t }

pub keeps_after : (ranges : Ranges) (t u v : Term) → Keeps ranges t u → Keeps ranges u v → Keeps ranges t v
keeps_after ranges t u v h k = record {
  typed = k.typed;
  stated = k.stated ∙ h.stated;
  value = λ env within. k.value env within ∙ h.value env within;
  inputs = inputs_after t u v h.inputs k.inputs;
}

-- so it is with each of these
abbrev pub AllKeep : Ranges → List Term → List Term → Type 0
AllKeep ranges [] [] = Unit {0}
AllKeep ranges (x ∷ xs) (y ∷ ys) = Keeps ranges x y × AllKeep ranges xs ys
AllKeep ranges [] (y ∷ ys) = ⊥
AllKeep ranges (x ∷ xs) [] = ⊥

pub keep_push : (ranges : Ranges) (xs ys : List Term) (x y : Term) → AllKeep ranges xs ys → Keeps ranges x y → AllKeep ranges (xs ++ x ∷ []) (ys ++ y ∷ [])
keep_push ranges [] [] x y h k = (k, tt)
keep_push ranges [] (b ∷ ys) x y h k = absurd h
keep_push ranges (a ∷ xs) [] x y h k = absurd h
keep_push ranges (a ∷ xs) (b ∷ ys) x y h k = (h.0, keep_push ranges xs ys x y h.1 k)

module _ (ranges : Ranges) where
  keep_count : (xs ys : List Term) → AllKeep ranges xs ys → length ys ≡ length xs
  keep_count [] [] h = refl
  keep_count [] (y ∷ ys) h = absurd h
  keep_count (x ∷ xs) [] h = absurd h
  keep_count (x ∷ xs) (y ∷ ys) h = ap suc (keep_count xs ys h.1)

  keep_types : (xs ys : List Term) → AllKeep ranges xs ys → map stated_type ys ≡ map stated_type xs
  keep_types [] [] h = refl
  keep_types [] (y ∷ ys) h = absurd h
  keep_types (x ∷ xs) [] h = absurd h
  keep_types (x ∷ xs) (y ∷ ys) h = rw (h.0.stated, keep_types xs ys h.1) refl

  keep_typed : (xs ys : List Term) → AllKeep ranges xs ys → AreTyped ys
  keep_typed [] [] h = tt
  keep_typed [] (y ∷ ys) h = absurd h
  keep_typed (x ∷ xs) [] h = absurd h
  keep_typed (x ∷ xs) (y ∷ ys) h = (h.0.typed, keep_typed xs ys h.1)

  keep_values : (env : Env) → IsWithin ranges env → (xs ys : List Term) → AllKeep ranges xs ys → map (Val env) ys ≡ map (Val env) xs
  keep_values env within [] [] h = refl
  keep_values env within [] (y ∷ ys) h = absurd h
  keep_values env within (x ∷ xs) [] h = absurd h
  keep_values env within (x ∷ xs) (y ∷ ys) h = rw (h.0.value env within, keep_values env within xs ys h.1) refl

  keep_inputs : (t : Term) (xs ys : List Term) → AllKeep ranges xs ys → Each (KeepsInputs t) xs → Each (KeepsInputs t) ys
  keep_inputs t [] [] h each = tt
  keep_inputs t [] (y ∷ ys) h each = absurd h
  keep_inputs t (x ∷ xs) [] h each = absurd h
  keep_inputs t (x ∷ xs) (y ∷ ys) h each = (inputs_after t x y each.0 h.0.inputs, keep_inputs t xs ys h.1 each.1)

  -- a node over operands that stand for others stands for the node over those
  pub keeps_node : (op : Op) (ty : LaneType) (k : ℕ) (xs ys : List Term) → IsWellTyped (Node op ty k xs) → AllKeep ranges xs ys → Keeps ranges (Node op ty k xs) (Node op ty k ys)
  keeps_node op ty k xs ys typed h =
      let parts = typed_node op ty k xs typed in
      let types = keep_types xs ys h in
      record {
        typed = node_typed op ty k ys (keep_count xs ys h ∙ parts.count) (keep_typed xs ys h) (ap (node_type (row_of op) ty k) types ∙ parts.node);
        stated = stated_node op ty k ys ∙ sym (stated_node op ty k xs);
        value = λ env within. value_node env op ty k ys ∙ ap ((row_of op).value ty k) (keep_values env within xs ys h) ∙ sym (value_node env op ty k xs);
        inputs = inputs_up (Node op ty k xs) op ty k ys (keep_inputs (Node op ty k xs) xs ys h (inputs_down (Node op ty k xs) op ty k xs (inputs_same (Node op ty k xs))));
      }
