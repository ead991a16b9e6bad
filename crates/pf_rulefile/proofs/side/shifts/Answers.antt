use Rattle.std.proofs.Common.{◌∙◌}
use Rattle.pf_rulefile.specs.declared.part.Part.{Part}
use Rattle.pf_rulefile.specs.Meaning.Tokens.{tokens}
use Rattle.pf_rulefile.specs.Steps.Parts.{parts}
use Rattle.pf_rulefile.specs.Steps.SideReads.{shift_link}
use Rattle.pf_rulefile.specs.Steps.Fronts.{sign_by}
use Rattle.pf_rulefile.specs.Meaning.Grammar.{shift_of}
use Rattle.pf_rulefile.proofs.ChainLaws.{chain_step}
use Rattle.pf_rulefile.proofs.side.shifts.Goals as goal

pub links-preserved : goal.links-preserved
links-preserved c =
    c.links.invariant
    ∙ chain_step Part (sign_by shift_of) (shift_link (parts c.args.vars.now) c.args.most c.args.depth) c.links.part (tokens c.links.rest.now) c.in-Some.op (tokens c.in-Some.onward.now) c.in-Some.ensures c.links.left c.in_ok-linked-in-Some.linked (tokens c.in_ok-linked-in-Some.next.now)
    c.links-test.true c.in_ok-linked-in-Some.ensures
