use Rattle.std.proofs.Common.{rules, ◌≡◌, sym, true, false}
use Rattle.pf_rules.specs.Meaning.Rules.{pair}
use Rattle.pf_match.specs.Steps.Trials.{bound}
use Rattle.pf_match.proofs.TrialLaws.{inside_more, inside_not, clash, fails}
use Rattle.pf_match.proofs.trials.Trial.+are_inside.Goals as goal

pub returns-then-is_inside : goal.returns-then-is_inside
returns-then-is_inside t c ranges kept =
    let self = c.args.self.now in
    let yes : c.is_inside.result ≡ true = search rules in
    let is = (c.is_inside.ensures ranges (c.in-Some.ensures.kept ranges kept)).0 yes in
    inside_more (pair self.w self.k) ranges (bound self) c.args.n c.args.vars.now c.var-item.result c.in-Some.part.term.now c.are_inside.result c.in-len1-up.len_at_least c.var-item.is (sym c.in-Some.ensures.term) is (c.are_inside.ensures ranges kept)

pub returns-else-is_inside : goal.returns-else-is_inside
returns-else-is_inside t c ranges kept =
    let self = c.args.self.now in
    let none : c.is_inside.result ≡ false = search rules in
    rw none
    (fails (inside_not (pair self.w self.k) ranges (bound self) c.args.n c.args.vars.now c.var-item.result c.in-Some.part.term.now c.in-len1-up.len_at_least c.var-item.is (sym c.in-Some.ensures.term)
    (λ h. clash c.is_inside.result none ((c.is_inside.ensures ranges (c.in-Some.ensures.kept ranges kept)).1 h))))
