use Rattle.pf_axioms.proofs.RowLaws.{sound}
use Rattle.pf_axioms.proofs.StepLaws.{exactly_at, only_at, keeps_at}
use Rattle.pf_axioms.proofs.steps.apply.Goals as goal

pub returns-clause-exactly : goal.returns-clause-exactly
returns-clause-exactly c = exactly_at _ _ c.requires _ (sound c.args.axiom) _ c.rewrite.ensures

pub returns-clause-only : goal.returns-clause-only
returns-clause-only c = only_at _ _ c.requires _ (sound c.args.axiom) _ c.rewrite.ensures

pub returns-clause-keeps : goal.returns-clause-keeps
returns-clause-keeps c = keeps_at _ _ c.requires _ (sound c.args.axiom) _ c.rewrite.ensures
