-- Files of rules: what each keeps.
use Rattle.std.specs.Prelude.{ℕ, ◌+◌, ◌==◌, nat_lt, Bool, true, ◌&&◌, ◌||◌, List, [], ◌∷◌, map}
use Rattle.pf_values.specs.Meaning.Terms.{all_true}
use Rattle.pf_rules.specs.declared.rule.By.{By}
use Rattle.pf_rules.specs.declared.rule.By.TheVariants as by
use Rattle.pf_rules.specs.declared.rule.Step.{Step}
use Rattle.pf_rules.specs.declared.rule.Kind.{Kind}
use Rattle.pf_rules.specs.declared.rule.RuleParts.{RuleParts}
use Rattle.pf_rules.specs.declared.rule_file.FileParts.{FileParts}
use Rattle.pf_rules.specs.Meaning.Rules.{suits}

-- a cited rule is an earlier one, that is one of the first n, and none is cited where that isn't allowed
abbrev pub is_cited : Bool → ℕ → By → Bool
is_cited allowed n (by.Rule m) = allowed && nat_lt m n
is_cited allowed n _ = true

abbrev pub is_step : Bool → ℕ → Step → Bool
is_step allowed n s = is_cited allowed n s.by

-- each rule suits the kind, and cites only rules before it, the first of them being rule n
abbrev pub are_rules : Bool → Kind → ℕ → List RuleParts → Bool
are_rules allowed kind n [] = true
are_rules allowed kind n (r ∷ rs) = (suits kind r && all_true (map (is_step allowed n) r.steps)) && are_rules allowed kind (n + 1) rs

-- the format is 1 or 2, in format 1 no rule is cited, and the rules are such
abbrev pub is_file : FileParts → Bool
is_file f = ((f.format == 1) || (f.format == 2)) && are_rules (f.format == 2) f.kind 0 f.rules
