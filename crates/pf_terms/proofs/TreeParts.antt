-- What is said of a syntax tree's node, by its parts.
use Rattle.std.proofs.Common.{◌≡◌, refl, sym, ap, ◌∙◌, subst, ℕ, ◌+◌, ◌<◌, ◌≤◌, Bool, true, false, ◌&&◌, ◌||◌, ℤ, List, [], ◌∷◌, ◌++◌, length, map, get_or, drop, arith, eqb-true, zero, suc}
use Rattle.std.specs.Prelude.{All, not, nat_le, unsigned_abs, Option}
use Rattle.std.specs.List.{flat_map}
use Rattle.std.proofs.lemmas.List.{length-map, get_or-map, drop_all, drop_more}
use borrow.Author.Tests.{leb-true}
use Rattle.pf_ints.specs.declared.lane.LaneType.{LaneType}
use Rattle.pf_terms.specs.declared.parse.syntax_tree.SyntaxTree.{SyntaxTree}
use Rattle.pf_terms.specs.declared.parse.syntax_tree.SyntaxTree.TheVariants.{Node, rolls-Node}
use Rattle.pf_terms.specs.declared.parse.syntax_tree.SyntaxTree.TheOpen.SyntaxTree-F.{Node as NodeLayer}
use Rattle.pf_terms.specs.declared.parse.syntax_tree.SyntaxTree.TheFolds.{fold-roll-SyntaxTree}
use Rattle.pf_values.specs.declared.names.ImageName.{ImageName}
use Rattle.pf_values.specs.declared.names.Names.{Names}
use Rattle.pf_values.specs.declared.names.Tap.{Tap}
use Rattle.pf_values.specs.declared.op.Op.{Op}
use Rattle.pf_values.specs.declared.term.Term.{Term}
use Rattle.pf_values.specs.Meaning.Operators.{row_of}
use Rattle.pf_values.specs.Meaning.Terms.{all_true, is_formed_node, operand_count}
use Rattle.pf_terms.specs.Meaning.Meanings.{in_order, tap_uses, uses_step, with_tap, with_taps, term_of, term_step, node_over}
use Rattle.pf_terms.specs.Steps.Building.{is_formed_tree, formed_tree_step, place_in_order}
use Rattle.pf_terms.proofs.Lookups.{HasPair, place_below, get_in_order, length_in_order}
use Rattle.pf_values.proofs.Typing.{and_left, and_right}

pub formed_is : (op : Op) (less : Bool) (ty : Option LaneType) (k : ℤ) (args : List SyntaxTree) →
    is_formed_tree (Node op less ty k args) ≡ (is_formed_node (row_of op) (unsigned_abs k) (length (map is_formed_tree args)) && (not less || nat_le 2 (length (map is_formed_tree args))) && all_true (map is_formed_tree args))
formed_is op less ty k args = ap is_formed_tree (sym (rolls-Node op less ty k args)) ∙ fold-roll-SyntaxTree Bool formed_tree_step (NodeLayer op less ty k args)

pub uses_is : (images : List ImageName) (op : Op) (less : Bool) (ty : Option LaneType) (k : ℤ) (args : List SyntaxTree) →
    tap_uses images (Node op less ty k args) ≡ flat_map (λ ts. ts) (in_order less (map (tap_uses images) args))
uses_is images op less ty k args = ap (tap_uses images) (sym (rolls-Node op less ty k args)) ∙ fold-roll-SyntaxTree (List Tap) (uses_step images) (NodeLayer op less ty k args)

pub term_is : (names : Names) (op : Op) (less : Bool) (ty : Option LaneType) (k : ℤ) (args : List SyntaxTree) →
    term_of names (Node op less ty k args) ≡ node_over op ty k (in_order less (map (term_of names) args))
term_is names op less ty k args = ap (term_of names) (sym (rolls-Node op less ty k args)) ∙ fold-roll-SyntaxTree Term (term_step names) (NodeLayer op less ty k args)

-- the operands of a formed node
pub record IsFormedNode (op : Op) (less : Bool) (k : ℤ) (args : List SyntaxTree) : Type 0 where
  pub own : is_formed_node (row_of op) (unsigned_abs k) (length args) ≡ true
  pub count : length args ≡ operand_count (row_of op).operands
  pub pair : HasPair less (length args)
  pub each : All (λ d. is_formed_tree d ≡ true) args

each_true : {A : Type 0} (f : A → Bool) (xs : List A) → all_true (map f xs) ≡ true → All (λ x. f x ≡ true) xs
each_true f [] h k d below = absurd (omega arith)
each_true f (x ∷ xs) h zero d below = and_left (f x) _ h
each_true f (x ∷ xs) h (suc k) d below = each_true f xs (and_right (f x) _ h) k d (omega arith)

pair_of : (less : Bool) (n : ℕ) → (not less || nat_le 2 n) ≡ true → HasPair less n
pair_of true n h e = leb-true 2 n h
pair_of false n h e = absurd (cc)

formed_parts : (op : Op) (less : Bool) (k : ℤ) (args : List SyntaxTree) (n : ℕ) → n ≡ length args →
    (is_formed_node (row_of op) (unsigned_abs k) n && ((not less || nat_le 2 n) && all_true (map is_formed_tree args))) ≡ true → IsFormedNode op less k args
formed_parts op less k args n same all =
    let own = and_left (is_formed_node (row_of op) (unsigned_abs k) n) _ all in
    let rest = and_right (is_formed_node (row_of op) (unsigned_abs k) n) _ all in
    let count : n ≡ operand_count (row_of op).operands = eqb-true _ _ (and_left _ _ own) in
    record {
      own = ap (is_formed_node (row_of op) (unsigned_abs k)) (sym same) ∙ own;
      count = sym same ∙ count;
      pair = subst (HasPair less) same (pair_of less n (and_left (not less || nat_le 2 n) _ rest));
      each = each_true is_formed_tree args (and_right (not less || nat_le 2 n) _ rest);
    }

regroup : (a b c : Bool) → (a && b && c) ≡ true → a && (b && c) ≡ true
regroup true b c h = h
regroup false b c h = h

pub formed_node : (d : SyntaxTree) (op : Op) (less : Bool) (ty : Option LaneType) (k : ℤ) (args : List SyntaxTree) → d ≡ Node op less ty k args → is_formed_tree d ≡ true → IsFormedNode op less k args
formed_node d op less ty k args is h =
    formed_parts op less k args (length (map is_formed_tree args)) (length-map args is_formed_tree)
    (regroup (is_formed_node (row_of op) (unsigned_abs k) (length (map is_formed_tree args))) (not less || nat_le 2 (length (map is_formed_tree args))) _ (sym (formed_is op less ty k args) ∙ ap is_formed_tree (sym is) ∙ h))

pub formed_operands : (op : Op) (less : Bool) (ty : Option LaneType) (k : ℤ) (args : List SyntaxTree) → is_formed_tree (Node op less ty k args) ≡ true → all_true (map is_formed_tree args) ≡ true
formed_operands op less ty k args h = and_right (is_formed_node (row_of op) (unsigned_abs k) (length (map is_formed_tree args)) && (not less || nat_le 2 (length (map is_formed_tree args)))) _ (sym (formed_is op less ty k args) ∙ h)

pub taps_further : (taps ts us : List Tap) → with_taps taps (ts ++ us) ≡ with_taps (with_taps taps ts) us
taps_further taps [] us = refl
taps_further taps (t ∷ ts) us = taps_further (with_tap taps t) ts us

-- operand n of the term
pub get_operand : {A : Type 0} (f : SyntaxTree → A) (less : Bool) (args : List SyntaxTree) (n : ℕ) (x : SyntaxTree) (d : A) → HasPair less (length args) → n < length args → x ≡ get_or args (place_in_order less n) x →
    get_or (in_order less (map f args)) n d ≡ f x
get_operand f less args n x d pair below at =
    get_in_order less (map f args) n d (subst (HasPair less) (sym (length-map args f)) pair)
    ∙ get_or-map f args (place_in_order less n) x d (place_below less (length args) n pair below) ∙ ap f (sym at)

pub operand_at : {A : Type 0} (f : SyntaxTree → A) (less : Bool) (args : List SyntaxTree) (n : ℕ) (x : SyntaxTree) → HasPair less (length args) → n < length args → x ≡ get_or args (place_in_order less n) x →
    drop n (in_order less (map f args)) ≡ f x ∷ drop (n + 1) (in_order less (map f args))
operand_at f less args n x pair below at =
    let long : length (in_order less (map f args)) ≡ length args = length_in_order less (map f args) ∙ length-map args f in
    drop_more (in_order less (map f args)) n (f x) (omega (arith, long))
    ∙ ap (λ y. y ∷ drop (n + 1) (in_order less (map f args))) (get_operand f less args n x (f x) pair below at)

-- the taps of one more operand are added
pub uses_more : (images : List ImageName) (less : Bool) (args : List SyntaxTree) (n : ℕ) (x : SyntaxTree) (before now all : List Tap) → HasPair less (length args) → n < length args → x ≡ get_or args (place_in_order less n) x →
    now ≡ with_taps before (tap_uses images x) →
    with_taps before (flat_map (λ ts. ts) (drop n (in_order less (map (tap_uses images) args)))) ≡ all →
    with_taps now (flat_map (λ ts. ts) (drop (n + 1) (in_order less (map (tap_uses images) args)))) ≡ all
uses_more images less args n x before now all pair below at is h =
    let rest = drop (n + 1) (in_order less (map (tap_uses images) args)) in
    ap (λ ts. with_taps ts (flat_map (λ us. us) rest)) is
    ∙ sym (taps_further before (tap_uses images x) (flat_map (λ us. us) rest))
    ∙ ap (λ ys. with_taps before (flat_map (λ us. us) ys)) (sym (operand_at (tap_uses images) less args n x pair below at)) ∙ h

-- the taps of all operands are added
pub uses_all : (images : List ImageName) (d : SyntaxTree) (op : Op) (less : Bool) (ty : Option LaneType) (k : ℤ) (args xs : List SyntaxTree) (n : ℕ) (now first : List Tap) → d ≡ Node op less ty k args → xs ≡ args → length xs ≤ n →
    with_taps now (flat_map (λ ts. ts) (drop n (in_order less (map (tap_uses images) xs)))) ≡ with_taps first (flat_map (λ ts. ts) (in_order less (map (tap_uses images) xs))) →
    now ≡ with_taps first (tap_uses images d)
uses_all images d op less ty k args xs n now first is same past h =
    let all = in_order less (map (tap_uses images) xs) in
    let long : length all ≡ length xs = length_in_order less (map (tap_uses images) xs) ∙ length-map xs (tap_uses images) in
    ap (λ ys. with_taps now (flat_map (λ ts. ts) ys)) (sym (drop_all n all (omega (arith, long)))) ∙ h
    ∙ ap (λ ys. with_taps first (flat_map (λ ts. ts) (in_order less (map (tap_uses images) ys)))) same
    ∙ ap (with_taps first) (sym (uses_is images op less ty k args) ∙ ap (tap_uses images) (sym is))
