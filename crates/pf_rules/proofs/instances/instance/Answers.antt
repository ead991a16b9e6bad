use Rattle.pf_rules.proofs.InstanceTerms.{typed_told, sort_told, value_told}
use Rattle.pf_rules.proofs.instances.instance.Goals as goal

pub returns-clause-typed : goal.returns-clause-typed
returns-clause-typed c = typed_told c.args.binding.now c.args.pattern.now _ c.replaced.result c.requires c.replaced.ensures

pub returns-clause-sort : goal.returns-clause-sort
returns-clause-sort c = sort_told c.args.binding.now c.args.pattern.now _ c.replaced.result c.replaced.ensures

pub returns-clause-value : goal.returns-clause-value
returns-clause-value c = value_told c.args.binding.now c.args.pattern.now _ c.replaced.result c.replaced.ensures
