use Rattle.pf_match.proofs.ListLaws.{index_kept}
use Rattle.pf_match.proofs.index.Index.put.Goals as goal

pub invariant_of-self : goal.invariant_of-self
invariant_of-self c = index_kept c.self.inside.keys c.push.new.self c.self.inside.lists c.self.inside.none c.args.key c.push.result c.self.invariant c.requires c.push.ensures.ok c.push.ensures.err
