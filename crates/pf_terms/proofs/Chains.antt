-- The first operands below a syntax tree, each the first operand of the one before.
use Rattle.std.proofs.Common.{◌≡◌, refl, sym, ap, ◌∙◌, subst, ℕ, ◌+◌, ◌<◌, ◌≤◌, zero, suc, arith, true, ℤ, Bool, List, [], ◌∷◌, ◌++◌, length, map, get_or}
use Rattle.std.specs.Prelude.{Option}
use Rattle.std.proofs.lemmas.List.{map-append}
use Rattle.pf_ints.specs.declared.lane.LaneType.{LaneType}
use Rattle.pf_terms.specs.declared.parse.syntax_tree.SyntaxTree.{SyntaxTree, out-SyntaxTree, out-roll-SyntaxTree}
use Rattle.pf_terms.specs.declared.parse.syntax_tree.SyntaxTree.TheVariants.{Node, rolls-Node}
use Rattle.pf_terms.specs.declared.parse.syntax_tree.SyntaxTree.TheOpen.{SyntaxTree-F}
use Rattle.pf_terms.specs.declared.parse.syntax_tree.SyntaxTree.TheOpen.SyntaxTree-F.{Node as NodeLayer}
use Rattle.pf_terms.specs.declared.parse.syntax_tree.SyntaxTree.TheFolds.{fold-SyntaxTree, fold-roll-SyntaxTree}
use Rattle.pf_terms.specs.declared.resolve.NodeFault.{NodeFault}
use Rattle.pf_values.specs.declared.names.Names.{Names}
use Rattle.pf_values.specs.declared.op.Op.{Op}
use Rattle.pf_terms.specs.Steps.Building.{is_formed_tree, place_in_order, IsFirst, IsNodeFault}
use Rattle.pf_terms.specs.Meaning.Meanings.{term_of}
use Rattle.pf_values.specs.Meaning.Terms.{typing, greatest_of}
use Rattle.pf_terms.proofs.Built.{operand_fault}
use Rattle.pf_terms.proofs.TreeParts.{formed_node}
use Rattle.pf_terms.proofs.Lookups.{place_below}
use Rattle.pf_values.proofs.Typing.{behind_nil}

abbrev depth_step : SyntaxTree-F ℕ → ℕ
depth_step (NodeLayer op less ty k args) = 1 + greatest_of args
depth_step _ = 1

-- 1 where there is no node, and one more than the deepest operand's for a node
abbrev pub tree_depth : SyntaxTree → ℕ
tree_depth = fold-SyntaxTree ℕ depth_step

depth_is : (op : Op) (less : Bool) (ty : Option LaneType) (k : ℤ) (args : List SyntaxTree) → tree_depth (Node op less ty k args) ≡ 1 + greatest_of (map tree_depth args)
depth_is op less ty k args = ap tree_depth (sym (rolls-Node op less ty k args)) ∙ fold-roll-SyntaxTree ℕ depth_step (NodeLayer op less ty k args)

among_all : (xs : List SyntaxTree) (m : ℕ) (x : SyntaxTree) → m < length xs → x ≡ get_or xs m x → tree_depth x ≤ greatest_of (map tree_depth xs)
among_all [] m x below at = absurd (omega arith)
among_all (y ∷ ys) zero x below at = let same : x ≡ y = at in omega (arith, ap tree_depth same)
among_all (y ∷ ys) (suc m) x below at = omega (arith, among_all ys m x (omega arith) at)

-- an operand is less deep
pub operand_smaller : (d : SyntaxTree) (op : Op) (less : Bool) (ty : Option LaneType) (k : ℤ) (args : List SyntaxTree) (m : ℕ) (x : SyntaxTree) → d ≡ Node op less ty k args → m < length args → x ≡ get_or args m x → tree_depth x < tree_depth d
operand_smaller d op less ty k args m x is below at =
    omega (arith, ap tree_depth is, depth_is op less ty k args, among_all args m x below at)

pub first_smaller : (d first : SyntaxTree) → is_formed_tree d ≡ true → IsFirst d first → tree_depth first < tree_depth d
first_smaller d first formed h =
    let parts = formed_node d h.op h.less h.ty h.k h.args h.is formed in
    operand_smaller d h.op h.less h.ty h.k h.args (place_in_order h.less 0) first h.is (place_below h.less (length h.args) 0 parts.pair h.some) h.at

pub first_formed : (d first : SyntaxTree) → is_formed_tree d ≡ true → IsFirst d first → is_formed_tree first ≡ true
first_formed d first formed h =
    let parts = formed_node d h.op h.less h.ty h.k h.args h.is formed in
    ap is_formed_tree h.at ∙ parts.each (place_in_order h.less 0) first (place_below h.less (length h.args) 0 parts.pair h.some)

-- the fault of the first operand is the node's
first_fault : (names : Names) (d first : SyntaxTree) (f : NodeFault) → is_formed_tree d ≡ true → IsFirst d first → IsNodeFault (typing (term_of names first)) f → IsNodeFault (typing (term_of names d)) f
first_fault names d first f formed h fault =
    let parts = formed_node d h.op h.less h.ty h.k h.args h.is formed in
    operand_fault names d h.op h.less h.ty h.k h.args h.args [] 0 first f h.is refl parts.pair h.some h.at (behind_nil _) fault

-- a node in the chain, over what is below it
pub record IsLink (node first : SyntaxTree) : Type 0 where
  pub formed : is_formed_tree node ≡ true
  pub step : IsFirst node first

-- these are the syntax trees from the top down, and this is the first operand of the last of them
abbrev pub IsChain : SyntaxTree → List SyntaxTree → SyntaxTree → Type 0
IsChain top [] low = low ≡ top
IsChain top (d ∷ ds) low = (d ≡ top) × ((first : SyntaxTree) × (IsLink d first × IsChain first ds low))

pub chain_longer : (top : SyntaxTree) (ds : List SyntaxTree) (low first : SyntaxTree) → IsChain top ds low → IsLink low first → IsChain top (ds ++ low ∷ []) first
chain_longer top [] low first h link = (h, (first, (link, refl)))
chain_longer top (d ∷ ds) low first h link = (h.0, (h.1.0, (h.1.1.0, chain_longer h.1.0 ds low first h.1.1.1 link)))

pub chain_shorter : (top : SyntaxTree) (ds : List SyntaxTree) (node low : SyntaxTree) → IsChain top (ds ++ node ∷ []) low → IsChain top ds node × IsLink node low
chain_shorter top [] node low h = (h.0, subst (IsLink node) (sym h.1.1.1) h.1.1.0)
chain_shorter top (d ∷ ds) node low h =
    let rest = chain_shorter h.1.0 ds node low h.1.1.1 in
    ((h.0, (h.1.0, (h.1.1.0, rest.0))), rest.1)

pub chain_smaller : (top : SyntaxTree) (ds : List SyntaxTree) (low : SyntaxTree) → IsChain top ds low → tree_depth low ≤ tree_depth top
chain_smaller top [] low h = omega (arith, ap tree_depth h)
chain_smaller top (d ∷ ds) low h =
    omega (arith, ap tree_depth h.0, first_smaller d h.1.0 h.1.1.0.formed h.1.1.0.step, chain_smaller h.1.0 ds low h.1.1.1)

-- a fault below is that of the top
pub chain_fault : (names : Names) (top : SyntaxTree) (ds : List SyntaxTree) (low : SyntaxTree) (f : NodeFault) → IsChain top ds low → IsNodeFault (typing (term_of names low)) f → IsNodeFault (typing (term_of names top)) f
chain_fault names top [] low f h fault = subst (λ d. IsNodeFault (typing (term_of names d)) f) h fault
chain_fault names top (d ∷ ds) low f h fault =
    subst (λ x. IsNodeFault (typing (term_of names x)) f) h.0
    (first_fault names d h.1.0 f h.1.1.0.formed h.1.1.0.step (chain_fault names h.1.0 ds low f h.1.1.1 fault))

-- one more syntax tree is pushed, and the last is popped
pub pushed : {R : Type 0} (f : R → SyntaxTree) (top : SyntaxTree) (rs all : List R) (r : R) (first : SyntaxTree) → all ≡ rs ++ r ∷ [] → IsChain top (map f rs) (f r) → IsLink (f r) first → IsChain top (map f all) first
pushed f top rs all r first more h link =
    subst (λ ds. IsChain top ds first) (sym (ap (map f) more ∙ map-append f rs (r ∷ []))) (chain_longer top (map f rs) (f r) first h link)

pub popped : {R : Type 0} (f : R → SyntaxTree) (top : SyntaxTree) (rs all : List R) (r : R) (low : SyntaxTree) → all ≡ rs ++ r ∷ [] → IsChain top (map f all) low → IsChain top (map f rs) (f r) × IsLink (f r) low
popped f top rs all r low more h =
    chain_shorter top (map f rs) (f r) low (subst (λ ds. IsChain top ds low) (ap (map f) more ∙ map-append f rs (r ∷ [])) h)

-- the top is all that is left
pub climbed : {R : Type 0} (f : R → SyntaxTree) (top : SyntaxTree) (rs : List R) (low : SyntaxTree) → rs ≡ [] → IsChain top (map f rs) low → low ≡ top
climbed f top rs low none h = subst (λ ds. IsChain top ds low) (ap (map f) none) h

opened : (op : Op) (less : Bool) (ty : Option LaneType) (k : ℤ) (args : List SyntaxTree) → out-SyntaxTree (Node op less ty k args) ≡ NodeLayer op less ty k args
opened op less ty k args = ap out-SyntaxTree (sym (rolls-Node op less ty k args)) ∙ out-roll-SyntaxTree (NodeLayer op less ty k args)

-- the first operand among the operands
pub first_of : (d first : SyntaxTree) (op : Op) (less : Bool) (ty : Option LaneType) (k : ℤ) (args xs : List SyntaxTree) → d ≡ Node op less ty k args → xs ≡ args → IsFirst d first → (0 < length xs) × (first ≡ get_or xs (place_in_order less 0) first)
first_of d first op less ty k args xs is same h =
    let layers : NodeLayer h.op h.less h.ty h.k h.args ≡ NodeLayer op less ty k args = sym (opened h.op h.less h.ty h.k h.args) ∙ ap out-SyntaxTree (sym h.is ∙ is) ∙ opened op less ty k args in
    let alike : h.less ≡ less = cc in
    let all : h.args ≡ xs = cc in
    (subst (λ ys. 0 < length ys) all h.some, h.at ∙ ap (λ b. get_or h.args (place_in_order b 0) first) alike ∙ ap (λ ys. get_or ys (place_in_order less 0) first) all)
