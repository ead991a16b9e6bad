use Rattle.std.proofs.Common.{arith}
use Rattle.pf_rules.proofs.ShiftLaws.{push_more}
use Rattle.pf_rules.proofs.shifts.push_pairs.Goals as goal

pub loop-k-preserved : goal.loop-k-preserved
loop-k-preserved c =
    let i = c.loop-k.invariant in
    let below = c.loop-k-test.true in
    record {
      from = omega (arith, i.from);
      to = omega (arith, below);
      small = i.small;
      so_far = push_more c.loop-k.all c.push.new.self _ c.args.w c.loop-k.k c.args.hi i.so_far (omega (arith, below)) c.in_ok-push.ensures.ok;
    }
