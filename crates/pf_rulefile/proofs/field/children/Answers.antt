use Rattle.std.proofs.Common.{ℕ, false}
use Rattle.pf_rulefile.specs.Meaning.Tokens.{tokens}
use Rattle.pf_rulefile.specs.Meaning.Lines.{slash_sign}
use Rattle.pf_rulefile.specs.Steps.Fronts.{sign_by}
use Rattle.pf_rulefile.specs.Steps.FieldReads.{child_part}
use Rattle.pf_rulefile.proofs.SumLaws.{goes_on}
use Rattle.pf_rulefile.proofs.field.children.Goals as goal

pub children-preserved : goal.children-preserved
children-preserved c =
    goes_on ℕ (sign_by slash_sign) child_part _ c.children.path c.push.new.self false (tokens c.children.rest.now) (tokens c.in-Some.found.1.now) c.in-Some.found.0 c.children.left false (tokens c.in-Some-slash.onward.now)
    c.children.invariant c.children-test.true c.in-Some.ensures c.in_ok-push.ensures.ok c.in-Some-slash.ensures
