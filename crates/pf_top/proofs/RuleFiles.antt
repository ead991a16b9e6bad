-- Judging the text of a file of rules.
use Rattle.std.proofs.Common.{◌≡◌, ◌⊎◌, inl, inr, ℕ, List, Option, true, false, Result, Ok, Err, refl, sym, subst}
use Rattle.pf_ints.specs.declared.target.Target.{Target}
use Rattle.pf_text.specs.Meaning.Answers.{Decides}
use Rattle.pf_outside.specs.declared.stop.Stop.{Stop}
use Rattle.pf_outside.specs.Meaning.Formats.{Means}
use Rattle.pf_rulefile.specs.declared.fault.RuleTextFault.{RuleTextFault}
use Rattle.pf_rulefile.specs.declared.fault.RuleTextFault.TheVariants.{At, Memory}
use Rattle.pf_rulefile.specs.declared.fault.RuleTextKind.{RuleTextKind}
use Rattle.pf_rulefile.specs.Meaning.RuleFiles.{IsRules, IsRulesFault, IsFaultOf}
use Rattle.pf_rules.specs.declared.rule_file.FileParts.{FileParts}
use Rattle.pf_top.specs.declared.fault.Failure.{Failure}
use Rattle.pf_top.specs.declared.fault.FileFault.{FileFault}
use Rattle.pf_top.specs.Meaning.RuleFiles.{is_for, rules_for, IsRulesFor}
use Rattle.pf_top.specs.Steps.RunSteps.{IsJudged, JudgesAs, refusal}

module _ (t : Option Target) (number : ℕ) (text : List ℕ) where
  -- the text is one of rules, which are right or not
  pub rules_judged : (f : FileParts) (r : Result FileParts (Stop FileFault Failure)) → Decides Memory (IsRules text) (IsFaultOf text) (Ok f) → IsJudged number t f r → JudgesAs (rules_for t) number r text
  rules_judged f (Ok g) found is = subst (λ (h : FileParts). Means (rules_for t) h text) (sym is.0) ((found.answers, is.1), (λ q spelled. found.only q spelled.0))
  rules_judged f (Err s) found is =
      let wrong : (p : FileParts) → IsRulesFor t p text → ⊥ = λ p spelled.
      let yes : is_for t f.kind ≡ true = subst (λ (q : FileParts). is_for t q.kind ≡ true) (sym (found.only p spelled.0)) spelled.1 in
      let no : is_for t f.kind ≡ false = is.1 in
      absurd (cc) in
      subst (λ (s : Stop FileFault Failure). JudgesAs (rules_for t) number (Err s) text) (sym is.0) (refl, (wrong, (f, found.answers, refl, is.1)))

  at_line : (line : ℕ) (kind : RuleTextKind) → IsFaultOf text (At line kind) ⊎ (◌≡◌ {A = RuleTextFault} (At line kind) Memory) → IsRulesFault text line kind
  at_line line kind (inl fault) = fault
  at_line line kind (inr wanting) = absurd (cc)

  no_rules : (line : ℕ) (kind : RuleTextKind) → ⊥ ⊎ (◌≡◌ {A = RuleTextFault} (At line kind) Memory) → ⊥
  no_rules line kind (inl never) = never
  no_rules line kind (inr wanting) = absurd (cc)

  -- it has a fault, or memory was wanting
  refused : (e : RuleTextFault) → Decides Memory (IsRules text) (IsFaultOf text) (Err e) → JudgesAs (rules_for t) number (Err (refusal number e)) text
  refused (At line kind) found = (refl, ((λ p spelled. no_rules line kind (found.only p spelled.0)), at_line line kind found.answers))
  refused Memory found = tt

  pub fault_judged : (e : RuleTextFault) (s : Stop FileFault Failure) → s ≡ refusal number e → Decides Memory (IsRules text) (IsFaultOf text) (Err e) → JudgesAs (rules_for t) number (Err s) text
  fault_judged e s is found = subst (λ (s : Stop FileFault Failure). JudgesAs (rules_for t) number (Err s) text) (sym is) (refused e found)
