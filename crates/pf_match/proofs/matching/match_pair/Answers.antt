use Rattle.std.proofs.Common.{rules, ◌≡◌, refl, sym, subst, ◌<◌, true, false}
use Rattle.pf_rules.specs.declared.rule.VarDecl.{VarDecl}
use Rattle.std.specs.Prelude.{List}
use Rattle.pf_match.specs.Steps.Trials.{standing, AreBoundFrom, AreTermsOf}
use Rattle.pf_match.proofs.TrialLaws.{clash}
use Rattle.pf_match.proofs.MatchLaws.{there_each, fits_some, fits_both}
use Rattle.pf_match.proofs.matching.match_pair.Goals as goal

pub returns-then-not-fits : goal.returns-then-not-fits
returns-then-not-fits c ranges kept b at h =
    let none : c.fits.result ≡ false = search rules in
    clash c.fits.result none (c.fits.ensures.1 (fits_both c.args.parts.now c.requires.rule c.args.part.term.now c.args.pair ranges b at h).0)

pub returns-then-not-are_inside : goal.returns-then-not-are_inside
returns-then-not-are_inside c ranges kept b at h =
    let none : c.are_inside.result ≡ false = search rules in
    let r = c.args.parts.now in
    let t = c.args.part.term.now in
    let inside = (fits_both r c.requires.rule t c.args.pair ranges b at h).1 in
    clash c.are_inside.result none ((c.are_inside.ensures ranges kept).1 (subst (λ (ds : List VarDecl). AreBoundFrom c.args.pair ranges (λ n. standing n r.lhs t) 0 ds) (sym c.as_slice.ensures) inside))

pub terms-requires-clause-there : goal.terms-requires-clause-there
terms-requires-clause-there c n below =
    let yes : c.fits.result ≡ true = search rules in
    there_each c.args.parts.now c.requires.rule c.args.part.term.now c.args.pair (c.fits.ensures.0 yes) n (subst (λ m. n < m) c.len.ensures below)

pub returns : goal.returns
returns c ranges kept =
    let fit : c.fits.result ≡ true = search rules in
    let in_range : c.are_inside.result ≡ true = search rules in
    let r = c.args.parts.now in
    let t = c.args.part.term.now in
    let inside = subst (λ (ds : List VarDecl). AreBoundFrom c.args.pair ranges (λ n. standing n r.lhs t) 0 ds) c.as_slice.ensures ((c.are_inside.ensures ranges kept).0 in_range) in
    let terms = subst (λ m. AreTermsOf (λ n. standing n r.lhs t) m c.in_ok-vars.vars) c.len.ensures c.in_ok-vars.ensures in
    (refl, fits_some r c.requires.rule t c.args.pair ranges c.in_ok-vars.vars (c.fits.ensures.0 fit) inside terms)
