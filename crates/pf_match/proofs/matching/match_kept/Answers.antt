use Rattle.std.proofs.Common.{◌≡◌, sym, ◌∙◌, subst, IfOk}
use Rattle.pf_match.specs.Meaning.Matches.{Match}
use Rattle.pf_match.proofs.matching.match_kept.Goals as goal

pub returns-in-Some : goal.returns-in-Some
returns-in-Some c ranges t kept at =
    let same : c.in-Some.part.term.now ≡ t = cc (sym c.in-Some.ensures.part ∙ at) in
    subst (λ u. IfOk c.match_part.result (Match c.args.rule.now ranges u)) same (c.match_part.ensures ranges (c.in-Some.ensures.kept ranges kept))
