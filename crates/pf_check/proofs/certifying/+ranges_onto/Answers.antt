use Rattle.std.proofs.Common.{sym, ◌∙◌}
use Rattle.pf_check.proofs.PairLaws.{ranges_step}
use Rattle.pf_check.proofs.certifying.+ranges_onto.Goals as goal

pub returns-in_ok-push-in-Some : goal.returns-in_ok-push-in-Some
returns-in_ok-push-in-Some t c =
    ranges_step c.args.pair c.args.n c.args.vars.now c.var-item.result c.in-Some.range c.args.ranges c.push.new.self c.ranges_onto.result
    c.in-len1-up.len_at_least c.var-item.is (sym c.range_of.ensures ∙ c.in-Some.is) c.in_ok-push-in-Some.ensures.ok c.ranges_onto.ensures
