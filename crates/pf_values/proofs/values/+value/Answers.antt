use Rattle.std.proofs.Common.{rules, arith, ◌≡◌, ◌<◌, take, length, sym, All, List, subst}
use Rattle.std.specs.Prelude.{ℤ}
use Rattle.std.proofs.lemmas.Int.{to_z-of_z}
use Rattle.std.proofs.lemmas.List.{length-set}
use Rattle.pf_values.specs.Meaning.Operators.{row_of}
use Rattle.pf_values.specs.Meaning.Small.{IsSmall}
use Rattle.pf_values.specs.Meaning.Terms.{Val}
use Rattle.pf_values.proofs.Evaluating.{ready, found_more, found_all, value_told, member_told, count_most}
use Rattle.pf_values.proofs.values.+value.Goals as goal

pub loop-n-init : goal.loop-n-init
loop-n-init t c =
    let all = ready c.args.env.now c.args.term.now c.in-Node.op c.in-Node.ty c.in-Node.k c.in-Node.args c.as_slice-arg-items.result.now c.in-Node.is c.as_slice-arg-items.ensures c.requires.typed c.requires.entries in
    record { typed = all.typed; entries = all.entries; count = all.count; room = search rules; found = search rules }

pub loop-n-preserved : goal.loop-n-preserved
loop-n-preserved t c =
    let i = c.loop-n.invariant in
    let below : c.loop-n.n < length c.loop-n.values = omega (arith, i.room, i.count, count_most (row_of c.in-Node.op).operands) in
    record {
      typed = i.typed;
      entries = i.entries;
      count = i.count;
      room = search (rules, length-set);
      found = found_more c.args.env.now c.as_slice-arg-items.result.now c.loop-n.values c.loop-n.n c.arg-item.result _ i.found c.loop-n-test.true below c.arg-item.is (search (rules, to_z-of_z));
    }

pub applied-requires-clause-small : goal.applied-requires-clause-small
applied-requires-clause-small t c =
    let xs = c.as_slice-arg-items.result.now in
    let all = ready c.args.env.now c.args.term.now c.in-Node.op c.in-Node.ty c.in-Node.k c.in-Node.args xs c.in-Node.is c.as_slice-arg-items.ensures c.requires.typed c.requires.entries in
    let found = found_all c.args.env.now xs c.in-Node.args c.loop-n.values c.loop-n.n c.len.result c.as_slice-arg-items.ensures c.loop-n.invariant.found c.loop-n-test.false (omega arith) c.len.ensures in
    let P : List ℤ → Type 0 = λ ys. All IsSmall ys in
    subst P (sym found) all.small

pub applied-requires-clause-amount : goal.applied-requires-clause-amount
applied-requires-clause-amount t c =
    (ready c.args.env.now c.args.term.now c.in-Node.op c.in-Node.ty c.in-Node.k c.in-Node.args c.as_slice-arg-items.result.now c.in-Node.is c.as_slice-arg-items.ensures c.requires.typed c.requires.entries).amount

pub returns-after-loop-n-clause-value : goal.returns-after-loop-n-clause-value
returns-after-loop-n-clause-value t c =
    let all = found_all c.args.env.now c.as_slice-arg-items.result.now c.in-Node.args c.loop-n.values c.loop-n.n c.len.result c.as_slice-arg-items.ensures c.loop-n.invariant.found c.loop-n-test.false (omega arith) c.len.ensures in
    let told : c.applied.result ≡ Val c.args.env.now c.args.term.now =
    value_told c.args.env.now c.args.term.now c.in-Node.op c.in-Node.ty c.in-Node.k c.in-Node.args c.as_slice-arg-items.result.now (take c.len.result c.loop-n.values) c.applied.result c.in-Node.is c.as_slice-arg-items.ensures all c.applied.ensures in
    search (rules, to_z-of_z)

pub returns-after-loop-n-clause-member : goal.returns-after-loop-n-clause-member
returns-after-loop-n-clause-member t c =
    member_told c.args.env.now c.args.term.now _ c.requires.typed c.requires.entries (returns-after-loop-n-clause-value t c)
