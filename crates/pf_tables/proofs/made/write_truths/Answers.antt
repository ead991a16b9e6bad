use Rattle.std.proofs.Common.{◌≡◌, ◌∙◌, ◌<◌, length, false, rules, arith, get_or}
use Rattle.std.specs.Prelude.{if◌then◌else◌}
use Rattle.std.proofs.lemmas.List.{length-set}
use Rattle.pf_tables.proofs.TruthLaws.{item_more}
use Rattle.pf_tables.proofs.made.write_truths.Goals as goal

pub loop-n-preserved : goal.loop-n-preserved
loop-n-preserved c =
    let i = c.loop-n.invariant in
    let inside : c.loop-n.n < length c.args.truths.now = omega (arith, c.requires, c.loop-n-test.true) in
    let room : c.loop-n.n < length c.loop-n.out = omega (arith, i.long, inside) in
    let is : c.from.result ≡ (if get_or c.args.truths.now c.loop-n.n false then 1 else 0) = search (rules, c.from.ensures, c.as_slice.ensures) in
    record {
      long = length-set c.loop-n.out c.loop-n.n c.from.result ∙ i.long;
      done = item_more (λ b. if b then 1 else 0) c.args.truths.now c.loop-n.out c.loop-n.n false 0 c.from.result i.done inside room is;
    }
