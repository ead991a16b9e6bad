use Rattle.std.proofs.lemmas.List.{take_rest}
use Rattle.pf_images.proofs.Writers.{one_more}
use Rattle.pf_images.proofs.streams.write_whole.Goals as goal

pub tries-preserved : goal.tries-preserved
tries-preserved g c = one_more _ _ _ _ c.tries.rest.now _ c.in_ok-count.count c.tries.invariant c.in_ok-count.ensures.taken (take_rest c.tries.rest.now c.in_ok-count.count)
