use Rattle.std.proofs.Common.{◌∙◌, ◌<◌, ◌+◌, ap, length, take, false, arith, refl}
use Rattle.std.specs.Prelude.{nat_lt}
use Rattle.std.proofs.lemmas.List.{length-set}
use Rattle.pf_tables.proofs.TruthLaws.{item_more}
use Rattle.pf_tables.proofs.made.set_truths.Goals as goal

pub loop-n-preserved : goal.loop-n-preserved
loop-n-preserved c =
    let i = c.loop-n.invariant in
    let inside : c.loop-n.n < length c.args.bytes.now = c.loop-n-test.true in
    let room : c.loop-n.n < length c.loop-n.truths = omega (arith, i.long) in
    record {
      long = ap length c.set.ensures ∙ length-set c.loop-n.truths c.loop-n.n _ ∙ i.long;
      done = ap (take (c.loop-n.n + 1)) c.set.ensures ∙ item_more (λ b. nat_lt 0 b) c.args.bytes.now c.loop-n.truths c.loop-n.n 0 false _ i.done inside room refl;
    }
