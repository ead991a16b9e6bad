use Rattle.std.proofs.Common.{◌≡◌, ◌+◌, ◌*◌, length, drop, take, map, vec_len, true, List}
use Rattle.std.specs.Prelude.{Ok}
use Rattle.pf_terms.specs.declared.parse.syntax_tree.SyntaxTree.{SyntaxTree}
use Rattle.pf_values.specs.declared.names.Tap.{Tap}
use Rattle.pf_terms.specs.Steps.Building.{is_formed_tree, with_these}
use Rattle.pf_terms.specs.Meaning.Meanings.{in_order, term_of}
use Rattle.pf_values.specs.Meaning.Terms.{typing, types_from, stated_type}
use Rattle.pf_terms.proofs.Chains.{IsChain, tree_depth}
use Rattle.pf_terms.proofs.TreeParts.{IsFormedNode}
use Rattle.pf_values.proofs.Typing.{behind}
use Rattle.pf_terms.proofs.resolve.+terms.Given as goal

abbrev pub decreases-resolved : goal.decreases-resolved
decreases-resolved l = 2 * tree_depth l.tree.now + 1

abbrev pub decreases-resolved_over : goal.decreases-resolved_over
decreases-resolved_over l = 2 * tree_depth l.node.now

abbrev pub invariant-resolved-loop-first : goal.invariant-resolved-loop-first
invariant-resolved-loop-first l =
    record {
      chain : IsChain l.fn.tree (map (λ d. d.now) l.chain.items) l.lowest;
      formed : is_formed_tree l.lowest ≡ true;
    }

abbrev pub decreases-resolved-loop-first : goal.decreases-resolved-loop-first
decreases-resolved-loop-first l = tree_depth l.lowest

abbrev pub invariant-resolved-loop-node : goal.invariant-resolved-loop-node
invariant-resolved-loop-node l =
    (at : SyntaxTree) × record {
      chain : IsChain l.fn.tree (map (λ d. d.now) l.chain.items) at;
      made : l.term ≡ term_of (with_these l.names l.taps) at;
      typed : (others : List Tap) → typing (term_of (with_these l.names others) at) ≡ Ok (stated_type l.term);
    }

abbrev pub decreases-resolved-loop-node : goal.decreases-resolved-loop-node
decreases-resolved-loop-node l = vec_len l.chain

abbrev pub invariant-resolved_over-loop-n : goal.invariant-resolved_over-loop-n
invariant-resolved_over-loop-n l =
    record {
      parts : IsFormedNode l.op l.less l.k l.trees;
      room : length l.types ≡ 4;
      made : l.args ≡ take l.n (in_order l.less (map (term_of (with_these l.names l.taps)) l.trees));
      types : take l.n l.types ≡ map stated_type l.args;
      onward : (others : List Tap) → behind (take l.n l.types) (types_from l.n (map typing (drop l.n (in_order l.less (map (term_of (with_these l.names others)) l.trees))))) ≡ types_from 0 (map typing (in_order l.less (map (term_of (with_these l.names others)) l.trees)));
    }
