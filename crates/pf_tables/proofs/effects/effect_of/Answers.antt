use Rattle.pf_tables.proofs.effects.effect_of.Goals as goal

pub compare-requires-clause-runs : goal.compare-requires-clause-runs
compare-requires-clause-runs g c = rw c.in-Compare.is at c.requires.runs
