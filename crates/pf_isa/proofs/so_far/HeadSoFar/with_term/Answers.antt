use Rattle.std.proofs.Common.{◌≡◌, rules, subst}
use Rattle.pf_isa.specs.Steps.HeadWords.{IsTheOne}
use Rattle.pf_isa.specs.Steps.HeadSteps.{IsDefinitionOf}
use Rattle.pf_isa.specs.Meaning.TextFaults.{SoFar, names_so_far, nodes_so_far, stage_behind, head_with_lifted}
use Rattle.pf_isa.proofs.HeadStepLaws.{definition_at, term_goes, no_term_goes}
use Rattle.pf_isa.proofs.so_far.HeadSoFar.with_term.Goals as goal

pub returns-in-None : goal.returns-in-None
returns-in-None c =
    let names : c.self.inside.names ≡ names_so_far c.args.self.head = search rules in
    let nodes : c.self.inside.nodes ≡ nodes_so_far c.args.self.head = search rules in
    let told = definition_at c.args.self.head c.self.inside.names c.args.name.now c.args.ty c.args.text.now c.self.inside.nodes c.in_ok-definition.field-0 names nodes c.in_ok-definition.ensures.found in
    no_term_goes c.args.self.head c.args.name.now c.args.ty c.args.text.now (subst (IsTheOne (IsDefinitionOf (names_so_far c.args.self.head) c.args.name.now c.args.ty c.args.text.now (nodes_so_far c.args.self.head))) c.in-None.is told)

pub returns : goal.returns
returns c =
    let names : c.self.inside.names ≡ names_so_far c.args.self.head = search rules in
    let nodes : c.self.inside.nodes ≡ nodes_so_far c.args.self.head = search rules in
    let told = definition_at c.args.self.head c.self.inside.names c.args.name.now c.args.ty c.args.text.now c.self.inside.nodes c.in_ok-definition.field-0 names nodes c.in_ok-definition.ensures.found in
    let s : SoFar = record { stage = c.stage_behind.result; head = c.push_lifted.new.head } in
    let made : s ≡ record { stage = stage_behind c.args.name.now; head = head_with_lifted c.args.self.head c.in-Some.definition } = search rules in
    term_goes c.args.self.head c.args.name.now c.args.ty c.args.text.now c.in-Some.definition s (subst (IsTheOne (IsDefinitionOf (names_so_far c.args.self.head) c.args.name.now c.args.ty c.args.text.now (nodes_so_far c.args.self.head))) c.in-Some.is told) made
