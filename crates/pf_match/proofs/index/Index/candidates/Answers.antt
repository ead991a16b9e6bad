use Rattle.std.proofs.Common.{sym, ap, ◌∙◌, subst}
use Rattle.pf_match.specs.Meaning.Candidates.{AreCandidates, HasEachMatch}
use Rattle.pf_match.specs.Steps.Lists.{found}
use Rattle.pf_match.proofs.CandidateLaws.{are_candidates, has_each}
use Rattle.pf_match.proofs.index.Index.candidates.Goals as goal

pub returns-clause-exact : goal.returns-clause-exact
returns-clause-exact c rules is = subst (AreCandidates rules c.args.term.now) (sym (c.found.ensures ∙ ap (λ keys. found keys c.args.term.now) is)) (are_candidates rules c.args.term.now)

pub returns-clause-matches : goal.returns-clause-matches
returns-clause-matches c rules is = subst (HasEachMatch rules c.args.term.now) (sym (c.found.ensures ∙ ap (λ keys. found keys c.args.term.now) is)) (has_each rules c.args.term.now)
