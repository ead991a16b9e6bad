use Rattle.pf_rules.specs.declared.number.NumberPart.{NumberPart}
use Rattle.pf_rulefile.specs.Meaning.Tokens.{tokens}
use Rattle.pf_rulefile.specs.Meaning.Grammar.{sum_sign}
use Rattle.pf_rulefile.specs.Steps.Fronts.{sign_by}
use Rattle.pf_rulefile.specs.Steps.NumberReads.{item_read}
use Rattle.pf_rulefile.proofs.SumLaws.{goes_on, ends}
use Rattle.pf_rulefile.proofs.number.number_parts.Goals as goal

pub parts-preserved : goal.parts-preserved
parts-preserved c =
    goes_on NumberPart (sign_by sum_sign) (item_read c.args.most c.args.depth) _ c.parts.parts c.push.new.self c.parts.minus (tokens c.parts.rest.now) (tokens c.in_ok-part.behind.now) c.in_ok-part.part c.parts.left c.in-Some.next (tokens c.in-Some.onward.now)
    c.parts.invariant c.parts-test.true c.in_ok-part.ensures c.in_ok-push.ensures.ok c.in-Some.ensures

pub returns-in-None : goal.returns-in-None
returns-in-None c =
    ends NumberPart (sign_by sum_sign) (item_read c.args.most c.args.depth) _ c.parts.parts c.push.new.self c.parts.minus (tokens c.parts.rest.now) (tokens c.in_ok-part.behind.now) c.in_ok-part.part c.parts.left
    c.parts.invariant c.parts-test.true c.in_ok-part.ensures c.in_ok-push.ensures.ok c.in-None.ensures
