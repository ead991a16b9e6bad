use Rattle.std.proofs.Common.{sym, ap, subst, ◌∙◌, List, take}
use Rattle.pf_values.specs.declared.term.Term.TheVariants.{Node}
use Rattle.pf_values.specs.Meaning.Terms.{IsWellTyped}
use Rattle.pf_bounds.specs.declared.kept.Bounds.{Bounds}
use Rattle.pf_bounds.proofs.TermLaws.{ready, leaf_formed}
use Rattle.pf_bounds.proofs.KeptLaws.{AreMarked, marked_more, marked_all, all_bounded, leaf_marked, node_marked, over_count, over_amount, over_some}
use Rattle.pf_bounds.proofs.kept.+marked.Goals as goal

pub loop-arg-init : goal.loop-arg-init
loop-arg-init t c =
    let h = ready c.args.ranges.now c.args.term.now c.in-Node.op c.in-Node.ty c.in-Node.k c.in-Node.args c.as_slice-arg-items.result.now c.in-Node.is c.as_slice-arg-items.ensures c.requires.typed c.requires.entries in
    record {
      typed = h.typed;
      ranged = h.ranged;
      marked = subst (λ (bs : List Bounds). AreMarked c.args.ranges.now (take 0 c.as_slice-arg-items.result.now) bs) (sym c.new-below.ensures) tt;
    }

pub loop-arg-preserved : goal.loop-arg-preserved
loop-arg-preserved t c =
    let i = c.loop-arg.invariant in
    let f = c.in_ok-bounds-in-Node.ensures in
    record {
      typed = i.typed;
      ranged = i.ranged;
      marked =
          marked_more c.args.ranges.now c.as_slice-arg-items.result.now c.loop-arg.below c.push.new.self c.loop-arg.arg-index c.arg-item.result c.in_ok-bounds-in-Node.bounds i.marked c.loop-arg-test.true c.arg-item.is
          (record { bounds = f.bounds; bounded = f.bounded })
          c.in_ok-push-in-Node.ensures.ok;
    }

pub of_node-requires : goal.of_node-requires
of_node-requires t c =
    let is = c.in-Node.is ∙ ap (Node c.in-Node.op c.in-Node.ty c.in-Node.k) (sym c.as_slice-arg-items.ensures) in
    let typed = subst IsWellTyped is c.requires.typed in
    let all = marked_all c.args.ranges.now c.as_slice-arg-items.result.now c.loop-arg.below c.loop-arg.arg-index c.loop-arg.invariant.marked c.loop-arg-test.false in
    record {
      count = over_count c.in-Node.op c.in-Node.ty c.in-Node.k c.as_slice-arg-items.result.now c.loop-arg.below c.as_slice.result.now typed (all_bounded c.args.ranges.now c.as_slice-arg-items.result.now c.loop-arg.below all) c.as_slice.ensures;
      amount = over_amount c.in-Node.op c.in-Node.ty c.in-Node.k c.as_slice-arg-items.result.now typed;
    }

pub found-at-requires : goal.found-at-requires
found-at-requires t c =
    let is = c.in-Node.is ∙ ap (Node c.in-Node.op c.in-Node.ty c.in-Node.k) (sym c.as_slice-arg-items.ensures) in
    let all = marked_all c.args.ranges.now c.as_slice-arg-items.result.now c.loop-arg.below c.loop-arg.arg-index c.loop-arg.invariant.marked c.loop-arg-test.false in
    over_some c.in-Node.op c.in-Node.ty c.in-Node.k c.as_slice-arg-items.result.now c.loop-arg.below c.as_slice.result.now c.of_node.result (subst IsWellTyped is c.requires.typed) (all_bounded c.args.ranges.now c.as_slice-arg-items.result.now c.loop-arg.below all) c.as_slice.ensures c.of_node.ensures

pub returns-in-Leaf-clause-bounded : goal.returns-in-Leaf-clause-bounded
returns-in-Leaf-clause-bounded t c =
    (leaf_marked c.args.ranges.now c.args.term.now c.in-Leaf.leaf c.in-Leaf.ty c.of_leaf.result c.in-Leaf.is c.requires.typed c.of_leaf.ensures.value c.of_leaf.ensures.kept c.of_leaf.ensures.member).bounded

pub returns-after-loop-arg-clause-bounds : goal.returns-after-loop-arg-clause-bounds
returns-after-loop-arg-clause-bounds t c =
    let all = marked_all c.args.ranges.now c.as_slice-arg-items.result.now c.loop-arg.below c.loop-arg.arg-index c.loop-arg.invariant.marked c.loop-arg-test.false in
    (node_marked c.args.ranges.now c.args.term.now c.in-Node.op c.in-Node.ty c.in-Node.k c.in-Node.args c.as_slice-arg-items.result.now c.loop-arg.below c.as_slice.result.now c.of_node.result c.found-at.result c.in-Node.is c.as_slice-arg-items.ensures c.requires.typed all c.as_slice.ensures c.of_node.ensures c.found-at.ensures).bounds

pub returns-after-loop-arg-clause-bounded : goal.returns-after-loop-arg-clause-bounded
returns-after-loop-arg-clause-bounded t c =
    let all = marked_all c.args.ranges.now c.as_slice-arg-items.result.now c.loop-arg.below c.loop-arg.arg-index c.loop-arg.invariant.marked c.loop-arg-test.false in
    (node_marked c.args.ranges.now c.args.term.now c.in-Node.op c.in-Node.ty c.in-Node.k c.in-Node.args c.as_slice-arg-items.result.now c.loop-arg.below c.as_slice.result.now c.of_node.result c.found-at.result c.in-Node.is c.as_slice-arg-items.ensures c.requires.typed all c.as_slice.ensures c.of_node.ensures c.found-at.ensures).bounded
