use Rattle.pf_tables.proofs.isa.SetOfIsa.parse.Goals as goal

pub returns-in-Some : goal.returns-in-Some
returns-in-Some g c = rw c.of.ensures c.in-Some.ensures.reads
