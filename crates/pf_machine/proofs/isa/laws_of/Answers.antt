use Rattle.pf_machine.proofs.EffectLaws.{reads_uses, changes_defs, renaming_commutes}
use Rattle.pf_machine.proofs.isa.laws_of.Goals as goal

pub returns-clause-reads : goal.returns-clause-reads
returns-clause-reads g c = reads_uses g.I.Isa.table g.I.Isa.is_op g.met.I.Isa.laws

pub returns-clause-changes : goal.returns-clause-changes
returns-clause-changes g c = changes_defs g.I.Isa.table

pub returns-clause-renames : goal.returns-clause-renames
returns-clause-renames g c = renaming_commutes g.I.Isa.table g.I.Isa.is_op g.met.I.Isa.laws
