-- How the steps of `check` make the whole call.
use Rattle.std.proofs.Common.{◌+◌, ℕ, List, [], true, false, Some, Result, Ok, Err, refl, arith}
use Rattle.pf_images.specs.Meaning.Outside.{Contents}
use Rattle.pf_outside.specs.declared.stop.Stop.{Stop}
use Rattle.pf_outside.specs.declared.stop.Stop.TheVariants.{Missing, Unreadable, Refused, Failed, Unwritten, Memory}
use Rattle.pf_outside.specs.Meaning.Formats.{Holds, Means, IsRefused}
use Rattle.pf_outside.specs.Meaning.StoreCalls.{Store}
use Rattle.pf_outside.specs.Meaning.Tasks.{EndsWith}
use Rattle.pf_outside.proofs.StoreCalls.{After, after_none}
use Rattle.pf_outside.proofs.Tasks.{after_judged, stopped, failed, wanted, put}
use Rattle.pf_rulefile.specs.Meaning.RuleFiles.{byte_limit}
use Rattle.pf_rules.specs.declared.rule_file.FileParts.{FileParts}
use Rattle.pf_verdicts.specs.Meaning.Verdicts.{AreVerdicts}
use Rattle.pf_top.specs.declared.fault.Failure.{Failure}
use Rattle.pf_top.specs.declared.fault.Failure.TheVariants.{Target, NoText, Count, Run, RulesRefused}
use Rattle.pf_top.specs.declared.fault.FileFault.{FileFault}
use Rattle.pf_top.specs.Meaning.Checking.{Check, checking}
use Rattle.pf_top.specs.Meaning.RuleFiles.{rules_for}
use Rattle.pf_top.specs.Steps.RunSteps.{JudgedAs, TellsVerdicts}

module _ (c : Check) where
  -- the file stops the call
  pub rules_stopped : (b d : Store) (e : Stop FileFault Failure) → JudgedAs (rules_for (Some c.target)) 0 c.file b (Err e) d → EndsWith (checking c) b (Err e) d
  rules_stopped b d e step =
      stopped (checking c) (λ f bars. bars) (λ _. Unit {0}) 0 b b (after_none b) (Means (rules_for (Some c.target))) (IsRefused (rules_for (Some c.target))) c.file (byte_limit + 1) (omega arith) refl (λ m _. tt) (λ m e _ is. is) d e step

  module _ (f : FileParts) (b d : Store) (one : JudgedAs (rules_for (Some c.target)) 0 c.file b (Ok f) d) where
    abbrev HasRules : Contents → Type 0
    HasRules m = Holds (rules_for (Some c.target)) c.file f m

    has_rules : After HasRules 1 b d
    has_rules = after_judged (Means (rules_for (Some c.target))) (IsRefused (rules_for (Some c.target))) (λ _. Unit {0}) HasRules c.file (byte_limit + 1) 0 0 b b d f (λ m _ is. is) (after_none b) one

    -- memory is wanting for what is said of the rules
    verdicts_wanted : EndsWith (checking c) b (Err Memory) d
    verdicts_wanted = wanted (checking c) (λ f bars. bars) HasRules 1 b d has_rules (omega arith)

    module _ (lines : List (List ℕ)) where
      -- a rule is refused
      rules_refused : AreVerdicts f (record { lines = lines; accepted = false }) → EndsWith (checking c) b (Err (Failed (RulesRefused lines))) d
      rules_refused is = failed (checking c) (λ f bars. bars) HasRules 1 b d has_rules (RulesRefused lines) tt refl (omega arith) (λ m held. (f, held, is))

      -- all are accepted
      rules_accepted : AreVerdicts f (record { lines = lines; accepted = true }) → EndsWith (checking c) b (Ok lines) d
      rules_accepted is = put (checking c) (λ f bars. bars) HasRules 1 b d has_rules refl refl lines [] (λ m held. (f, held, is))

    pub verdicts_told : (r : Result (List (List ℕ)) (Stop FileFault Failure)) → TellsVerdicts f r → EndsWith (checking c) b r d
    verdicts_told (Ok lines) is = rules_accepted lines is
    verdicts_told (Err (Failed (RulesRefused lines))) is = rules_refused lines is
    verdicts_told (Err (Failed (Target t))) is = absurd is
    verdicts_told (Err (Failed NoText)) is = absurd is
    verdicts_told (Err (Failed (Count want got))) is = absurd is
    verdicts_told (Err (Failed (Run e))) is = absurd is
    verdicts_told (Err (Missing n)) is = absurd is
    verdicts_told (Err (Unreadable n)) is = absurd is
    verdicts_told (Err (Refused n e)) is = absurd is
    verdicts_told (Err Unwritten) is = absurd is
    verdicts_told (Err Memory) is = verdicts_wanted
