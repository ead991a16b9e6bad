use Rattle.std.proofs.Common.{◌≡◌, true, rules, subst, refl}
use Rattle.pf_terms.specs.Meaning.Meanings.{IsTermText}
use Rattle.pf_values.specs.Meaning.Terms.{IsWellTyped}
use Rattle.pf_values.specs.Meaning.NamedTerms.{is_named}
use Rattle.pf_isa.specs.Steps.HeadWords.{IsTheOne}
use Rattle.pf_isa.proofs.HeadStepLaws.{definition_only, no_definition, unfitting}
use Rattle.pf_isa.proofs.NodeLaws.{too_many}
use Rattle.pf_isa.proofs.so_far.definition_of.Goals as goal

pub returns-then-branch-gt-MOST_NODES-clause-found : goal.returns-then-branch-gt-MOST_NODES-clause-found
returns-then-branch-gt-MOST_NODES-clause-found c =
    too_many c.args.names.now c.args.name.now c.args.ty c.args.text.now c.args.before c.in_ok-fewest_nodes.field-0 c.in_ok-fewest_nodes.ensures c.if-branch-gt-MOST_NODES.true

pub returns-in-None-clause-found : goal.returns-in-None-clause-found
returns-in-None-clause-found c =
    no_definition c.args.names.now c.args.name.now c.args.ty c.args.text.now c.args.before (subst (IsTheOne (λ t. IsTermText c.args.names.now c.args.text.now t c.args.names.now)) c.in-None.is c.in_ok-term.ensures.found)

pub returns-then-not-is_fitting-clause-found : goal.returns-then-not-is_fitting-clause-found
returns-then-not-is_fitting-clause-found c =
    let told = subst (IsTheOne (λ t. IsTermText c.args.names.now c.args.text.now t c.args.names.now)) c.in-Some.is c.in_ok-term.ensures.found in
    unfitting c.args.names.now c.args.name.now c.args.ty c.args.text.now c.args.before c.in-Some.term told.1 (λ f. let is = c.is_fitting.ensures.1 f in absurd (search rules))

pub returns-clause-found : goal.returns-clause-found
returns-clause-found c =
    let told = subst (IsTheOne (λ t. IsTermText c.args.names.now c.args.text.now t c.args.names.now)) c.in-Some.is c.in_ok-term.ensures.found in
    let typed : IsWellTyped c.in-Some.term = search rules in
    let named : is_named c.args.names.now c.in-Some.term ≡ true = search rules in
    definition_only c.args.names.now c.args.name.now c.args.ty c.args.text.now c.args.before c.in-Some.term told typed named (c.if-not-is_fitting.ensures.0 refl)
