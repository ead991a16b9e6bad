use Rattle.std.proofs.Common.{rules, ◌≡◌, subst, sym}
use Rattle.pf_values.specs.declared.term.Term.TheVariants.{Node}
use Rattle.pf_values.specs.Meaning.Terms.{IsWellTyped}
use Rattle.pf_bounds.specs.declared.kept.OperandParts.{OperandParts}
use Rattle.pf_bounds.proofs.KeptLaws.{over_count, over_amount, over_some, over_bounded}
use Rattle.pf_bounds.proofs.kept.Bounded.over.Goals as goal

pub of_node-requires-clause-count : goal.of_node-requires-clause-count
of_node-requires-clause-count c =
    let same : c.args.operands ≡ c.operands.inside.parts = search rules in
    let typed = subst (λ (o : OperandParts). IsWellTyped (Node c.args.op c.args.ty c.args.k o.terms)) same c.requires.typed in
    over_count c.args.op c.args.ty c.args.k c.operands.inside.parts.terms c.operands.inside.parts.bounds c.as_slice.result.now typed c.operands.invariant c.as_slice.ensures

pub of_node-requires-clause-amount : goal.of_node-requires-clause-amount
of_node-requires-clause-amount c = over_amount c.args.op c.args.ty c.args.k c.args.operands.terms c.requires.typed

pub found-at-requires : goal.found-at-requires
found-at-requires c =
    let same : c.args.operands ≡ c.operands.inside.parts = search rules in
    let typed = subst (λ (o : OperandParts). IsWellTyped (Node c.args.op c.args.ty c.args.k o.terms)) same c.requires.typed in
    over_some c.args.op c.args.ty c.args.k c.operands.inside.parts.terms c.operands.inside.parts.bounds c.as_slice.result.now c.of_node.result typed c.operands.invariant c.as_slice.ensures c.of_node.ensures

pub invariant_of-result : goal.invariant_of-result
invariant_of-result c =
    let same : c.args.operands ≡ c.operands.inside.parts = search rules in
    let typed = subst (λ (o : OperandParts). IsWellTyped (Node c.args.op c.args.ty c.args.k o.terms)) same c.requires.typed in
    over_bounded c.args.op c.args.ty c.args.k c.operands.inside.parts.terms c.operands.inside.parts.bounds c.as_slice.result.now c.of_node.result c.found-at.result typed c.operands.invariant c.as_slice.ensures c.of_node.ensures c.found-at.ensures
