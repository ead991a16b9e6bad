use Rattle.std.proofs.Common.{sym, ap, ◌∙◌, Some}
use Rattle.pf_match.specs.Steps.Trials.{bound}
use Rattle.pf_match.proofs.TrialLaws.{terms_more, none_there}
use Rattle.pf_match.proofs.trials.Trial.terms.Goals as goal

pub unreachable-requires : goal.unreachable-requires
unreachable-requires c = none_there (bound c.args.self.now c.loop-n.n) (sym c.in-None.ensures.term) (c.requires.there c.loop-n.n c.loop-n-test.true)

pub loop-n-preserved : goal.loop-n-preserved
loop-n-preserved c =
    terms_more (bound c.args.self.now) c.loop-n.n c.loop-n.terms c.push.new.self c.in_ok-copy-in-Some.field-0 c.loop-n.invariant (sym c.in-Some.ensures.term ∙ ap Some (sym c.in_ok-copy-in-Some.ensures)) c.in_ok-push-in-Some.ensures.ok
