use Rattle.pf_forms.specs.Meaning.Shapes.{shape}
use Rattle.pf_templates.specs.Meaning.Letters.{letters}
use Rattle.pf_templates.specs.Meaning.Templates.{tree}
use Rattle.pf_templates.proofs.TemplateLaws.{looked_at}
use Rattle.pf_templates.proofs.looking.look.Goals as goal

pub returns-clause-forms : goal.returns-clause-forms
returns-clause-forms c =
    λ count h. looked_at count (tree c.args.template.now) (shape c.args.form.now) (letters c.start.result) (letters c.descend.result) c.start.ensures c.descend.ensures h
