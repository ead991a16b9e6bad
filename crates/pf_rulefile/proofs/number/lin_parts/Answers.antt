use Rattle.pf_rules.specs.declared.number.LinPart.{LinPart}
use Rattle.pf_rulefile.specs.Meaning.Tokens.{tokens}
use Rattle.pf_rulefile.specs.Meaning.Grammar.{sum_sign}
use Rattle.pf_rulefile.specs.Steps.Fronts.{sign_by}
use Rattle.pf_rulefile.specs.Steps.NumberReads.{lin_read}
use Rattle.pf_rulefile.proofs.SumLaws.{goes_on, ends}
use Rattle.pf_rulefile.proofs.number.lin_parts.Goals as goal

pub parts-preserved : goal.parts-preserved
parts-preserved c =
    goes_on LinPart (sign_by sum_sign) lin_read _ c.parts.parts c.push.new.self c.parts.minus (tokens c.parts.rest.now) (tokens c.in-Some.found.1.now) c.in-Some.found.0 c.parts.left c.in-Some-sign.next (tokens c.in-Some-sign.onward.now)
    c.parts.invariant c.parts-test.true c.in-Some.ensures c.in_ok-push.ensures.ok c.in-Some-sign.ensures

pub returns-in-None-sign : goal.returns-in-None-sign
returns-in-None-sign c =
    ends LinPart (sign_by sum_sign) lin_read _ c.parts.parts c.push.new.self c.parts.minus (tokens c.parts.rest.now) (tokens c.in-Some.found.1.now) c.in-Some.found.0 c.parts.left
    c.parts.invariant c.parts-test.true c.in-Some.ensures c.in_ok-push.ensures.ok c.in-None-sign.ensures
