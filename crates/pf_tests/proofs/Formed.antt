-- Terms that are made by hand are well-formed.
use Rattle.std.proofs.Common.{◌≡◌, refl, ◌∙◌, true, [], ◌∷◌, ℕ}
use Rattle.std.specs.Prelude.{ℤ}
use Rattle.pf_ints.specs.declared.lane.LaneType.{LaneType}
use Rattle.pf_ints.specs.Meaning.Lanes.{is_in}
use Rattle.pf_values.specs.declared.op.Op.{Op}
use Rattle.pf_values.specs.declared.term.Leaf.TheVariants.{Const}
use Rattle.pf_values.specs.declared.term.Term.{Term}
use Rattle.pf_values.specs.declared.term.Term.TheVariants.{Leaf, Node}
use Rattle.pf_values.specs.Meaning.Operators.{row_of}
use Rattle.pf_values.specs.Meaning.Terms.{is_well_formed, is_formed_node}
use Rattle.pf_values.proofs.NodeParts.{formed_is}
use Rattle.pf_values.proofs.TermRanges.{formed_leaf}

pub number_formed : (n : ℤ) (ty : LaneType) → is_in ty n ≡ true → is_well_formed (Leaf (Const n) ty) ≡ true
number_formed n ty inside = formed_leaf (Const n) ty ∙ inside

pub one_formed : (op : Op) (ty : LaneType) (k : ℕ) (x : Term)
    → is_formed_node (row_of op) k 1 ≡ true → is_well_formed x ≡ true → is_well_formed (Node op ty k (x ∷ [])) ≡ true
one_formed op ty k x own left = formed_is op ty k (x ∷ []) ∙ rw (own, left) refl

pub two_formed : (op : Op) (ty : LaneType) (k : ℕ) (x y : Term)
    → is_formed_node (row_of op) k 2 ≡ true → is_well_formed x ≡ true → is_well_formed y ≡ true → is_well_formed (Node op ty k (x ∷ y ∷ [])) ≡ true
two_formed op ty k x y own left right = formed_is op ty k (x ∷ y ∷ []) ∙ rw (own, left, right) refl
