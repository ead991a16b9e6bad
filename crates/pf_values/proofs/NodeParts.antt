-- What is said of a node, by its parts.
use Rattle.std.proofs.Common.{◌≡◌, sym, ap, ◌∙◌, subst, ℕ, ◌<◌, Bool, true, ◌&&◌, List, ◌∷◌, length, map, get_or, eqb-true, drop, drop-cons, suc, ◌≤◌}
use Rattle.std.proofs.lemmas.List.{length-map, drop_all}
use Rattle.std.specs.Prelude.{All, Result, Ok, Err}
use Rattle.pf_ints.specs.declared.lane.LaneType.{LaneType}
use Rattle.pf_values.specs.declared.fault.TermFault.{TermFault}
use Rattle.pf_values.specs.declared.op.Op.{Op}
use Rattle.pf_values.specs.declared.term.Term.{Term}
use Rattle.pf_values.specs.declared.term.Term.TheVariants.{Node, rolls-Node}
use Rattle.pf_values.specs.declared.term.Term.TheOpen.Term-F.{Node as NodeLayer}
use Rattle.pf_values.specs.declared.term.Term.TheFolds.{fold-roll-Term}
use Rattle.pf_values.specs.Meaning.Operators.{row_of}
use Rattle.pf_values.specs.declared.names.Names.{Names}
use Rattle.pf_values.specs.Meaning.NamedTerms.{is_named, named_step}
use Rattle.pf_values.proofs.Typing.{and_left, and_right, all_true_at, behind, stopped, gathered, tells_below}
use Rattle.pf_values.specs.Meaning.Terms.{all_true, is_formed_node, is_well_formed, typing, types_from, then_node, operand_count, formed_step, typing_step, TypesAs, fault_below, node_type}

pub formed_is : (op : Op) (ty : LaneType) (k : ℕ) (args : List Term) → is_well_formed (Node op ty k args) ≡ (is_formed_node (row_of op) k (length (map is_well_formed args)) && all_true (map is_well_formed args))
formed_is op ty k args = ap is_well_formed (sym (rolls-Node op ty k args)) ∙ fold-roll-Term Bool formed_step (NodeLayer op ty k args)

pub typing_is : (op : Op) (ty : LaneType) (k : ℕ) (args : List Term) → typing (Node op ty k args) ≡ then_node (row_of op) ty k (types_from 0 (map typing args))
typing_is op ty k args = ap typing (sym (rolls-Node op ty k args)) ∙ fold-roll-Term (Result LaneType TermFault) typing_step (NodeLayer op ty k args)

-- the operands of a well-formed node are as many as its operator's, and well-formed
pub node_formed : (t : Term) (op : Op) (ty : LaneType) (k : ℕ) (args : List Term) → t ≡ Node op ty k args → is_well_formed t ≡ true →
    (length args ≡ operand_count (row_of op).operands) × (all_true (map is_well_formed args) ≡ true)
node_formed t op ty k args is h =
    let whole = ap is_well_formed (sym is) ∙ h in
    let both = sym (formed_is op ty k args) ∙ ap is_well_formed (sym is) ∙ h in
    let own = and_left (is_formed_node (row_of op) k (length (map is_well_formed args))) _ both in
    let count : length (map is_well_formed args) ≡ operand_count (row_of op).operands = eqb-true _ _ (and_left _ _ own) in
    (sym (length-map args is_well_formed) ∙ count, and_right (is_formed_node (row_of op) k (length (map is_well_formed args))) _ both)

-- each of well-formed terms is well-formed
pub formed_each : (xs : List Term) → all_true (map is_well_formed xs) ≡ true → All (λ t. is_well_formed t ≡ true) xs
formed_each xs h n d below = all_true_at is_well_formed xs n d h below

-- the first operand's fault is the node's
pub fault_told : (t : Term) (op : Op) (ty : LaneType) (k : ℕ) (args xs : List Term) (ts : List LaneType) (n m : ℕ) (x : Term) (e f : TermFault) →
    t ≡ Node op ty k args → xs ≡ args → behind ts (types_from n (map typing (drop n xs))) ≡ types_from 0 (map typing xs) →
    x ≡ get_or xs n x → n < length xs → m ≡ n → TypesAs (Err e) (typing x) → TypesAs (Err f) (Err (fault_below m e)) → TypesAs (Err f) (typing t)
fault_told t op ty k args xs ts n m x e f is same onward at under count found told =
    let here : drop n xs ≡ x ∷ drop (suc n) xs = drop-cons xs n x under ∙ ap (λ y. y ∷ drop (suc n) xs) (sym at) in
    tells_below e f m (typing x) (typing t) found told (λ r.
    let first : behind ts (types_from n (Err e ∷ map typing (drop (suc n) xs))) ≡ types_from 0 (map typing xs) =
    ap (λ y. behind ts (types_from n (y ∷ map typing (drop (suc n) xs)))) (sym r) ∙ ap (λ ys. behind ts (types_from n (map typing ys))) (sym here) ∙ onward in
    let all = stopped ts e n (map typing (drop (suc n) xs)) (types_from 0 (map typing xs)) first in
    ap typing is ∙ typing_is op ty k args ∙ ap (λ ys. then_node (row_of op) ty k (types_from 0 (map typing ys))) (sym same) ∙ ap (then_node (row_of op) ty k) (sym all) ∙ ap (λ i. Err (fault_below i e)) (sym count))

-- where all operands have types, the node's type is by the table
pub type_told : (t : Term) (op : Op) (ty : LaneType) (k : ℕ) (args xs : List Term) (ts us : List LaneType) (n : ℕ) (r : Result LaneType TermFault) →
    t ≡ Node op ty k args → xs ≡ args → behind ts (types_from n (map typing (drop n xs))) ≡ types_from 0 (map typing xs) →
    length xs ≤ n → us ≡ ts → TypesAs r (node_type (row_of op) ty k us) → TypesAs r (typing t)
type_told t op ty k args xs ts us n r is same onward all found told =
    let whole : Ok ts ≡ types_from 0 (map typing xs) = gathered ts n (types_from 0 (map typing xs)) (ap (λ ys. behind ts (types_from n (map typing ys))) (sym (drop_all n xs all)) ∙ onward) in
    let type : typing t ≡ node_type (row_of op) ty k us =
    ap typing is ∙ typing_is op ty k args ∙ ap (λ ys. then_node (row_of op) ty k (types_from 0 (map typing ys))) (sym same) ∙ ap (then_node (row_of op) ty k) (sym whole) ∙ ap (λ ys. node_type (row_of op) ty k ys) (sym found) in
    subst (TypesAs r) (sym type) told

-- each operand of a named node is named
pub named_each : (names : Names) (t : Term) (op : Op) (ty : LaneType) (k : ℕ) (args xs : List Term) → t ≡ Node op ty k args → xs ≡ args → is_named names t ≡ true →
    All (λ x. is_named names x ≡ true) xs
named_each names t op ty k args xs is same h n d below =
    let whole : all_true (map (is_named names) args) ≡ true =
    sym (ap (is_named names) (sym (rolls-Node op ty k args)) ∙ fold-roll-Term Bool (named_step names) (NodeLayer op ty k args)) ∙ ap (is_named names) (sym is) ∙ h in
    all_true_at (is_named names) xs n d (ap (λ ys. all_true (map (is_named names) ys)) same ∙ whole) below
