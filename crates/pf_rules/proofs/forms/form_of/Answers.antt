use Rattle.pf_rules.specs.Meaning.Sorts.{place}
use Rattle.pf_rules.proofs.SideSteps.{value_told, over_told}
use Rattle.pf_rules.proofs.forms.form_of.Goals as goal

pub form_at-requires : goal.form_at-requires
form_at-requires c = c.requires

pub returns-clause-form : goal.returns-clause-form
returns-clause-form c = c.form_at.ensures

pub returns-clause-value : goal.returns-clause-value
returns-clause-value c = value_told (place c.args.w c.args.k c.args.vars.now) c.args.pattern.now _ c.form_at.result c.requires c.form_at.ensures

pub returns-clause-over : goal.returns-clause-over
returns-clause-over c = over_told (place c.args.w c.args.k c.args.vars.now) c.args.pattern.now _ c.form_at.result c.requires c.form_at.ensures
