use Rattle.std.proofs.Common.{rules, ◌≡◌, refl, sym, ap, ◌∙◌, subst, length, get_or, take, map, arith, drop, set, w64, to_z, of_z, ◌+◌, ◌<◌, ◌++◌, ◌∷◌, [], Bor}
use Rattle.std.specs.Prelude.{Ok, Err, unsigned_abs}
use Rattle.std.proofs.lemmas.Grind.{common_steps}
use Rattle.std.proofs.lemmas.Int.{to_z-of_z}
use Rattle.std.proofs.lemmas.List.{length-set, take_more_set, map-append}
use Rattle.pf_terms.specs.declared.parse.syntax_tree.SyntaxTree.{SyntaxTree}
use Rattle.pf_terms.specs.declared.parse.syntax_tree.SyntaxTree.TheVariants.{Node}
use Rattle.pf_values.specs.Meaning.Operators.{row_of}
use Rattle.pf_values.specs.Meaning.Terms.{stated_type, typing, types_from}
use Rattle.pf_terms.specs.Meaning.Meanings.{term_of, in_order}
use Rattle.pf_terms.specs.Steps.Building.{with_these, IsBuilt, place_in_order, is_formed_tree}
use Rattle.pf_terms.proofs.Chains.{IsLink, pushed, popped, climbed, chain_smaller, chain_fault, first_formed, first_of, operand_smaller}
use Rattle.pf_terms.proofs.TreeParts.{IsFormedNode, formed_node}
use Rattle.pf_values.proofs.Evaluating.{count_most}
use Rattle.pf_terms.proofs.Lookups.{place_below}
use Rattle.pf_values.proofs.Typing.{behind, behind_nil}
use Rattle.pf_terms.proofs.Built.{types_more, types_all, made_more, node_made, node_told, operand_fault, own_fault, some_operands}
use Rattle.pf_values.proofs.TermRanges.{stated_node}
use Rattle.pf_terms.proofs.resolve.+terms.Goals as goal

abbrev lent : Bor SyntaxTree → SyntaxTree
lent d = d.now

pub resolved-loop-first-preserved : goal.resolved-loop-first-preserved
resolved-loop-first-preserved t c =
    let i = c.loop-first.invariant in
    let link : IsLink c.loop-first.lowest.now c.in-Some.first.now = record { formed = i.formed; step = c.in-Some.ensures } in
    record {
      chain = pushed lent c.args.tree.now c.loop-first.chain.items c.push.new.self.items c.loop-first.lowest c.in-Some.first.now c.in_ok-push.ensures.items i.chain link;
      formed = first_formed c.loop-first.lowest.now c.in-Some.first.now i.formed c.in-Some.ensures;
    }

pub resolved-resolved_over-requires : goal.resolved-resolved_over-requires
resolved-resolved_over-requires t c =
    let i = c.loop-node.invariant in
    let parts = popped lent c.args.tree.now c.pop.new.self.items c.loop-node.chain.items c.in-Some-pop.node i.0 c.in-Some-pop.ensures.items i.1.chain in (
      omega (arith, c.decreases, chain_smaller c.args.tree.now (map lent c.pop.new.self.items) c.in-Some-pop.node.now parts.0),
      (parts.1.formed, (c.requires.few_defs, (c.requires.few_taps, (c.requires.few_images, record { tree = i.0; first = parts.1.step; made = i.1.made; typed = i.1.typed })))),
    )

pub resolved-returns-in_err-term-clause-found : goal.resolved-returns-in_err-term-clause-found
resolved-returns-in_err-term-clause-found t c others =
    let i = c.loop-node.invariant in
    let f = c.in_err-term.field-0.0 in
    let parts = popped lent c.args.tree.now c.pop.new.self.items c.loop-node.chain.items c.in-Some-pop.node i.0 c.in-Some-pop.ensures.items i.1.chain in
    let e : c.from_residual-in_err-term.result ≡ Err f = search rules in
    subst (IsBuilt (typing (term_of (with_these c.args.names.now others) c.args.tree.now))) (sym e)
    (chain_fault (with_these c.args.names.now others) c.args.tree.now (map lent c.pop.new.self.items) c.in-Some-pop.node.now f parts.0 (c.in_err-term.ensures.found others))

pub resolved-loop-node-preserved : goal.resolved-loop-node-preserved
resolved-loop-node-preserved t c =
    let i = c.loop-node.invariant in
    let parts = popped lent c.args.tree.now c.pop.new.self.items c.loop-node.chain.items c.in-Some-pop.node i.0 c.in-Some-pop.ensures.items i.1.chain in
    (c.in-Some-pop.node.now, record { chain = parts.0; made = c.in_ok-term.ensures.made; typed = c.in_ok-term.ensures.found })

pub resolved-returns-clause-found : goal.resolved-returns-clause-found
resolved-returns-clause-found t c others =
    let i = c.loop-node.invariant in
    let none : c.loop-node.chain.items ≡ [] = grind (arith, common_steps) in
    let all : i.0 ≡ c.args.tree.now = climbed lent c.args.tree.now c.loop-node.chain.items i.0 none i.1.chain in
    ap (λ d. typing (term_of (with_these c.args.names.now others) d)) (sym all) ∙ i.1.typed others

pub resolved_over-loop-n-init : goal.resolved_over-loop-n-init
resolved_over-loop-n-init t c =
    let h = c.requires.first in
    let xs = c.as_slice-trees.result.now in
    let less = c.in-Node.less in
    let names = c.args.names.now in
    let parts = subst (IsFormedNode c.in-Node.op less c.in-Node.k) (sym c.as_slice-trees.ensures) (formed_node c.args.node.now c.in-Node.op less c.in-Node.ty c.in-Node.k c.in-Node.args c.in-Node.is c.requires.formed) in
    let first = first_of c.args.node.now h.tree c.in-Node.op less c.in-Node.ty c.in-Node.k c.in-Node.args xs c.in-Node.is c.as_slice-trees.ensures h.first in
    record {
      parts = parts;
      room = refl;
      made = made_more (with_these names c.args.taps.now) less xs 0 h.tree c.new-args.result c.push.new.self c.args.first parts.pair first.0 first.1 h.made c.new-args.ensures c.in_ok-push.ensures.ok;
      types = ap (λ u. u ∷ []) c.stated_type.ensures ∙ ap (map stated_type) (sym (c.in_ok-push.ensures.ok ∙ ap (λ ts. ts ++ c.args.first ∷ []) c.new-args.ensures));
      onward = λ others.
          types_more (with_these names others) less xs [] 0 h.tree c.stated_type.result _ parts.pair first.0 first.1
          (h.typed others ∙ ap (λ u. Ok u) (sym c.stated_type.ensures)) (behind_nil _);
    }

pub resolved_over-resolved-requires : goal.resolved_over-resolved-requires
resolved_over-resolved-requires t c =
    let parts = c.loop-n.invariant.parts in
    let x = c.index-trees-place_in_order.result in
    let m = place_in_order c.in-Node.less c.loop-n.n in
    let below : m < length c.as_slice-trees.result.now = place_below c.in-Node.less (length c.as_slice-trees.result.now) c.loop-n.n parts.pair c.loop-n-test.true in
    let at : x ≡ get_or c.as_slice-trees.result.now m x = c.index-trees-place_in_order.is ∙ ap (λ j. get_or c.as_slice-trees.result.now j x) c.place_in_order.ensures in
    let less = operand_smaller c.args.node.now c.in-Node.op c.in-Node.less c.in-Node.ty c.in-Node.k c.as_slice-trees.result.now m x (c.in-Node.is ∙ ap (Node c.in-Node.op c.in-Node.less c.in-Node.ty c.in-Node.k) (sym c.as_slice-trees.ensures)) below at in (
      omega (arith, c.decreases, less),
      (ap is_formed_tree at ∙ parts.each m x below, (c.requires.few_defs, (c.requires.few_taps, c.requires.few_images))),
    )

pub resolved_over-returns-in_err-arg-clause-found : goal.resolved_over-returns-in_err-arg-clause-found
resolved_over-returns-in_err-arg-clause-found t c others =
    let xs = c.as_slice-trees.result.now in
    let x = c.index-trees-place_in_order.result in
    let i = c.loop-n.invariant in
    let e : c.from_residual-in_err-arg.result ≡ Err c.in_err-arg.field-0.0 = search rules in
    subst (IsBuilt (typing (term_of (with_these c.args.names.now others) c.args.node.now))) (sym e)
    (operand_fault (with_these c.args.names.now others) c.args.node.now c.in-Node.op c.in-Node.less c.in-Node.ty c.in-Node.k c.in-Node.args xs (take c.loop-n.n c.loop-n.types) c.loop-n.n x c.in_err-arg.field-0.0
    c.in-Node.is c.as_slice-trees.ensures i.parts.pair c.loop-n-test.true (c.index-trees-place_in_order.is ∙ ap (λ m. get_or xs m x) c.place_in_order.ensures) (i.onward others) (c.in_err-arg.ensures.found others))

pub resolved_over-loop-n-preserved : goal.resolved_over-loop-n-preserved
resolved_over-loop-n-preserved t c =
    let xs = c.as_slice-trees.result.now in
    let x = c.index-trees-place_in_order.result in
    let i = c.loop-n.invariant in
    let n = c.loop-n.n in
    let st = c.stated_type-in-loop-n.result in
    let names = c.args.names.now in
    let at : x ≡ get_or xs (place_in_order c.in-Node.less n) x = c.index-trees-place_in_order.is ∙ ap (λ m. get_or xs m x) c.place_in_order.ensures in
    let below : n < length c.loop-n.types = omega (arith, c.loop-n-test.true, i.room, i.parts.count, count_most (row_of c.in-Node.op).operands) in
    let types : take (n + 1) (set c.loop-n.types n st) ≡ take n c.loop-n.types ++ st ∷ [] = take_more_set c.loop-n.types n st below in
    record {
      parts = i.parts;
      room = search (rules, length-set);
      made = made_more (with_these names c.args.taps.now) c.in-Node.less xs n x c.loop-n.args c.push-in-loop-n.new.self c.in_ok-arg.arg i.parts.pair c.loop-n-test.true at c.in_ok-arg.ensures.made i.made c.in_ok-push-2.ensures.ok;
      types = types ∙ ap (λ ts. ts ++ st ∷ []) i.types ∙ ap (λ u. map stated_type c.loop-n.args ++ u ∷ []) c.stated_type-in-loop-n.ensures ∙ sym (map-append stated_type c.loop-n.args (c.in_ok-arg.arg ∷ [])) ∙ ap (map stated_type) (sym c.in_ok-push-2.ensures.ok);
      onward = λ others.
          ap (λ ts. behind ts (types_from (n + 1) (map typing (drop (n + 1) (in_order c.in-Node.less (map (term_of (with_these names others)) xs)))))) types
          ∙ types_more (with_these names others) c.in-Node.less xs (take n c.loop-n.types) n x st _ i.parts.pair c.loop-n-test.true at
          (c.in_ok-arg.ensures.found others ∙ ap (λ u. Ok u) (sym c.stated_type-in-loop-n.ensures)) (i.onward others);
    }

pub resolved_over-returns-in_err-ty-clause-found : goal.resolved_over-returns-in_err-ty-clause-found
resolved_over-returns-in_err-ty-clause-found t c others =
    let names = with_these c.args.names.now others in
    let xs = c.as_slice-trees.result.now in
    let ts = take (length xs) c.loop-n.types in
    let f = c.in_err-ty.field-0.0 in
    let end : c.loop-n.n ≡ length xs = omega (arith, c.loop-n-test.false, c.loop-n.auto.n-end, c.loop-n.invariant.parts.count, some_operands (row_of c.in-Node.op).operands) in
    let found = types_all c.in-Node.less names xs (take c.loop-n.n c.loop-n.types) ts c.loop-n.n (omega arith) (ap (λ m. take m c.loop-n.types) end) (c.loop-n.invariant.onward others) in
    let e : c.from_residual-in_err-ty.result ≡ Err f = search rules in
    subst (IsBuilt (typing (term_of names c.args.node.now))) (sym e)
    (own_fault (typing (term_of names c.args.node.now)) _ c.node_type.result f (node_told names c.args.node.now c.in-Node.op c.in-Node.less c.in-Node.ty c.in-Node.k c.in-Node.args xs ts (unsigned_abs (to_z w64 (of_z w64 c.in-Node.k))) c.in-Node.is c.as_slice-trees.ensures (search (rules, to_z-of_z)) found)
    c.in_err-ty.was c.node_type.ensures.found)

pub resolved_over-returns-clause-made : goal.resolved_over-returns-clause-made
resolved_over-returns-clause-made t c =
    let names = with_these c.args.names.now c.args.taps.now in
    let xs = c.as_slice-trees.result.now in
    let ts = take (length xs) c.loop-n.types in
    let end : length xs ≡ c.loop-n.n = omega (arith, c.loop-n-test.false, c.loop-n.auto.n-end, c.loop-n.invariant.parts.count, some_operands (row_of c.in-Node.op).operands) in
    node_made names c.args.node.now c.in-Node.op c.in-Node.less c.in-Node.ty c.in-Node.k c.in-Node.args xs c.loop-n.args ts c.in_ok-ty.ty c.loop-n.n c.unsigned_abs.result
    c.in-Node.is c.as_slice-trees.ensures c.loop-n.invariant.made (omega arith) (ap (λ m. take m c.loop-n.types) end ∙ c.loop-n.invariant.types) c.in_ok-ty.ensures.small.1 (search (rules, to_z-of_z))

pub resolved_over-returns-clause-found : goal.resolved_over-returns-clause-found
resolved_over-returns-clause-found t c others =
    let names = with_these c.args.names.now others in
    let xs = c.as_slice-trees.result.now in
    let ts = take (length xs) c.loop-n.types in
    let end : c.loop-n.n ≡ length xs = omega (arith, c.loop-n-test.false, c.loop-n.auto.n-end, c.loop-n.invariant.parts.count, some_operands (row_of c.in-Node.op).operands) in
    let found = types_all c.in-Node.less names xs (take c.loop-n.n c.loop-n.types) ts c.loop-n.n (omega arith) (ap (λ m. take m c.loop-n.types) end) (c.loop-n.invariant.onward others) in
    node_told names c.args.node.now c.in-Node.op c.in-Node.less c.in-Node.ty c.in-Node.k c.in-Node.args xs ts (unsigned_abs (to_z w64 (of_z w64 c.in-Node.k))) c.in-Node.is c.as_slice-trees.ensures (search (rules, to_z-of_z)) found
    ∙ c.in_ok-ty.ensures.found ∙ ap (λ u. Ok u) (sym (stated_node c.in-Node.op c.in_ok-ty.ty c.unsigned_abs.result c.loop-n.args))
