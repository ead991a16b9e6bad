use Rattle.std.proofs.Common.{rules, ◌≡◌, ap, ◌∙◌, true, Some}
use Rattle.pf_values.specs.Meaning.Terms.{stated_type}
use Rattle.pf_rules.specs.Meaning.Sorts.{lane_at}
use Rattle.pf_match.proofs.TrialLaws.{inside_told}
use Rattle.pf_match.proofs.trials.is_inside.Goals as goal

pub returns-then-is_type_at : goal.returns-then-is_type_at
returns-then-is_type_at c ranges kept =
    let yes : c.is_type_at.result ≡ true = search rules in
    let typed : lane_at c.args.w c.args.var.now.ty ≡ Some (stated_type c.args.term.now) = c.is_type_at.ensures.0 yes ∙ ap Some c.stated_type.ensures in
    inside_told c.args.w c.args.k ranges c.args.var.now c.args.term.now c.args.bounds.now c.range_of.result c.whole.result c.is_within.result kept typed c.range_of.ensures c.whole.ensures c.is_within.ensures
