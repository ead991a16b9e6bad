use Rattle.std.proofs.Common.{◌<◌, ap, pos, length, arith}
use Rattle.pf_match.specs.Steps.Keys.{place_of}
use Rattle.pf_match.proofs.ListLaws.{index_listed}
use Rattle.pf_match.proofs.index.Index.put_at.Goals as goal

pub invariant_of-self-2 : goal.invariant_of-self-2
invariant_of-self-2 c =
    let below : place_of c.args.op < length c.grow.new.lists = let many = c.in_ok-grow.ensures.ok in omega (arith, many) in
    index_listed c.self.inside.keys c.push.new.self c.self.inside.lists c.grow.new.lists c.set.new.self c.self.inside.none c.args.key c.args.op (pos c.len-number.result) c.at.result.now c.in_ok-lists.lists c.self.invariant c.requires c.in_ok-push.ensures.ok
    (ap pos c.len-number.ensures) c.in_ok-grow.ensures.same c.at.ensures below c.in_ok-lists.ensures c.set.ensures
