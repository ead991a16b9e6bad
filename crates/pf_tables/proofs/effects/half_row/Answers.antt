use Rattle.pf_tables.specs.Steps.RowLaws.{half_fits}
use Rattle.pf_tables.proofs.effects.half_row.Goals as goal

pub returns-clause-fits : goal.returns-clause-fits
returns-clause-fits g c = rw (c.row.ensures, c.place.ensures) (half_fits g.R.Rows.set g.met.R.Rows.laws c.args.instruction c.requires.listed c.requires.half)
