use Rattle.std.proofs.Common.{ap, ◌∙◌, arith, get_or}
use Rattle.pf_values.specs.Meaning.Operators.{row_of}
use Rattle.pf_terms.specs.Steps.Building.{place_in_order}
use Rattle.pf_terms.proofs.Built.{some_operands}
use Rattle.pf_terms.proofs.TreeParts.{formed_node}
use Rattle.pf_terms.proofs.resolve.first_operand.Goals as goal

pub returns-in-Node : goal.returns-in-Node
returns-in-Node c =
    let n = c.in-Node in
    let first = c.index-as_slice-place_in_order.result in
    let parts = formed_node c.args.tree.now n.op n.less n.ty n.k n.args n.is c.requires in
    record {
      op = n.op;
      less = n.less;
      ty = n.ty;
      k = n.k;
      args = n.args;
      is = n.is;
      some = omega (arith, parts.count, some_operands (row_of n.op).operands);
      at = c.index-as_slice-place_in_order.is ∙ ap (λ m. get_or c.as_slice.result.now m first) c.place_in_order.ensures ∙ ap (λ xs. get_or xs (place_in_order n.less 0) first) c.as_slice.ensures;
    }
