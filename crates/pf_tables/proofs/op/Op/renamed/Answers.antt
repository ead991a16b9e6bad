use Rattle.pf_tables.specs.Steps.RowLaws.{renamed_listed}
use Rattle.pf_tables.proofs.op.Op.renamed.Goals as goal

pub of-requires : goal.of-requires
of-requires g c = rw c.renamed.ensures (renamed_listed g.R.Rows.set c.self.inside.instruction c.args.old c.args.new c.self.invariant)
