use Rattle.std.proofs.Common.{arith, ap, ◌∙◌, ◌≡◌, true, length, map}
use Rattle.pf_values.specs.Meaning.Terms.{is_well_formed, typing, types_from, all_true}
use Rattle.pf_values.proofs.NodeParts.{node_formed, formed_each, fault_told, type_told}
use Rattle.pf_values.proofs.Typing.{behind, behind_nil}
use Rattle.pf_values.proofs.types.+type_of.Goals as goal

pub loop-arg-init : goal.loop-arg-init
loop-arg-init t c =
    let xs = c.as_slice-arg-items.result.now in
    let same = c.as_slice-arg-items.ensures in
    let parts = node_formed c.args.term.now c.in-Node.op c.in-Node.ty c.in-Node.k c.in-Node.args c.in-Node.is c.requires.formed in
    let all : all_true (map is_well_formed xs) ≡ true = ap (λ ys. all_true (map is_well_formed ys)) same ∙ parts.1 in
    record {
      formed = formed_each xs all;
      operands = ap length same ∙ parts.0;
      count = ap length c.new-types.ensures.items;
      onward = ap (λ ts. behind ts (types_from 0 (map typing xs))) c.new-types.ensures.items ∙ behind_nil (types_from 0 (map typing xs));
    }

pub returns-in-Err : goal.returns-in-Err
returns-in-Err t c =
    fault_told c.args.term.now c.in-Node.op c.in-Node.ty c.in-Node.k c.in-Node.args c.as_slice-arg-items.result.now c.loop-arg.types.items c.loop-arg.arg-index c.len-n.result c.arg-item.result c.in-Err.fault c.lowered.result
    c.in-Node.is c.as_slice-arg-items.ensures c.loop-arg.invariant.onward c.arg-item.is c.loop-arg-test.true (omega arith) c.in-Err.ensures c.lowered.ensures

pub returns-after-loop-arg : goal.returns-after-loop-arg
returns-after-loop-arg t c =
    type_told c.args.term.now c.in-Node.op c.in-Node.ty c.in-Node.k c.in-Node.args c.as_slice-arg-items.result.now c.loop-arg.types.items c.as_slice.result.now c.loop-arg.arg-index c.node_type.result
    c.in-Node.is c.as_slice-arg-items.ensures c.loop-arg.invariant.onward c.loop-arg-test.false c.as_slice.ensures.value c.node_type.ensures
