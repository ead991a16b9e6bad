use Rattle.std.proofs.Common.{sym, ap, ◌∙◌, Some}
use Rattle.pf_rules.proofs.InstanceTerms.{each_instance, instance_more, small_instance, node_replaced}
use Rattle.pf_rules.proofs.instances.+replaced.Goals as goal

pub loop-arg-init : goal.loop-arg-init
loop-arg-init t c =
    let xs = c.as_slice-arg-items.result.now in
    record {
      each = each_instance c.args.binding.now c.args.pattern.now c.in-Node.op c.in-Node.to c.in-Node.k c.in-Node.args xs c.in-Node.is c.as_slice-arg-items.ensures c.requires;
      made = ap Some (sym c.new-terms.ensures);
    }

pub loop-arg-preserved : goal.loop-arg-preserved
loop-arg-preserved t c =
    let xs = c.as_slice-arg-items.result.now in
    record {
      each = c.loop-arg.invariant.each;
      made =
          instance_more c.args.binding.now xs c.loop-arg.terms c.push.new.self c.loop-arg.arg-index c.arg-item.result c.in_ok-term-in-Node.term c.loop-arg.invariant.made c.loop-arg-test.true c.arg-item.is c.in_ok-term-in-Node.ensures
          c.in_ok-push-in-Node.ensures.ok;
    }

pub small_amount-requires : goal.small_amount-requires
small_amount-requires t c = small_instance c.args.binding.now c.args.pattern.now c.in-Node.op c.in-Node.to c.in-Node.k c.in-Node.args c.in-Node.is c.requires

pub returns-in_ok-types-in-Node : goal.returns-in_ok-types-in-Node
returns-in_ok-types-in-Node t c =
    node_replaced c.args.binding.now c.args.pattern.now c.in-Node.op c.in-Node.to c.in-Node.k c.in-Node.args c.as_slice-arg-items.result.now c.loop-arg.arg-index c.loop-arg.terms c.as_slice.result.now c.as_slice-in-Node.result.now c.stated_or-stated.result c.op_gives.result c.small_amount.result
    c.in-Node.is c.as_slice-arg-items.ensures c.requires c.loop-arg-test.false c.loop-arg.invariant.made c.as_slice.ensures (c.as_slice-in-Node.ensures.value ∙ c.in_ok-types-in-Node.ensures) c.stated_or-stated.ensures c.op_gives.ensures c.small_amount.ensures
