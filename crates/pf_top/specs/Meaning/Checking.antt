-- The command `check`: its words, and what they ask for.
use Rattle.std.specs.Prelude.{◌≡◌, ℕ, zero, suc, ◌+◌, List, [], ◌∷◌, Bool, true, false, Some, None, codes}
use Rattle.pf_ints.specs.declared.target.Target.{Target}
use Rattle.pf_ints.specs.Meaning.Targets.{target_word}
use Rattle.pf_check.specs.Meaning.Files.{AllAccepted}
use Rattle.pf_images.specs.Meaning.Outside.{Contents}
use Rattle.pf_outside.specs.Meaning.Formats.{Holds, HoldsNone}
use Rattle.pf_outside.specs.Meaning.StoreCalls.{FileStartsWith}
use Rattle.pf_outside.specs.Meaning.Tasks.{Task}
use Rattle.pf_rulefile.specs.Meaning.RuleFiles.{byte_limit}
use Rattle.pf_rules.specs.declared.rule_file.FileParts.{FileParts}
use Rattle.pf_verdicts.specs.Meaning.Verdicts.{AreVerdicts}
use Rattle.pf_top.specs.declared.fault.Failure.{Failure}
use Rattle.pf_top.specs.declared.fault.Failure.TheVariants.{RulesRefused}
use Rattle.pf_top.specs.declared.fault.FileFault.{FileFault}
use Rattle.pf_top.specs.Meaning.RuleFiles.{rules_for, IsRulesFor}

-- the words behind `check`
pub record Check : Type 0 where
  pub target : Target
  pub file : List ℕ

-- the words are `check T FILE`
abbrev pub IsCheck : List (List ℕ) → Check → Type 0
IsCheck words c = words ≡ codes "check" ∷ target_word c.target ∷ c.file ∷ []

-- the file has rules for the target, of which these lines tell, all accepted or not
abbrev pub Judges : Check → List (List ℕ) → Bool → Contents → Type 0
Judges c lines accepted files = (f : FileParts) × Holds (rules_for (Some c.target)) c.file f files × AreVerdicts f (record { lines = lines; accepted = accepted })

abbrev pub GoodCheck : Check → ℕ → Contents → Type 0
GoodCheck c zero files = Unit {0}
GoodCheck c (suc n) files = (f : FileParts) × Holds (rules_for (Some c.target)) c.file f files

-- a rule is refused
abbrev pub FailsCheck : Check → Failure → Contents → Type 0
FailsCheck c (RulesRefused lines) files = Judges c lines false files
FailsCheck c _ files = ⊥

abbrev pub AllowsCheck : Failure → Type 0
AllowsCheck (RulesRefused lines) = Unit {0}
AllowsCheck _ = ⊥

abbrev pub MakesCheck : Check → List (List ℕ) → List ℕ → Contents → Type 0
MakesCheck c lines bytes files = Judges c lines true files

-- the file has rules for the target, each of which is accepted with those before it
abbrev pub HasAccepted : Check → Contents → Type 0
HasAccepted c files = (f : FileParts) × FileStartsWith c.file (byte_limit + 1) (IsRulesFor (Some c.target) f) files × AllAccepted f.kind [] f.rules

abbrev pub checking : Check → Task FileFault Failure
checking c = record {
  names = c.file ∷ [];
  out = None;
  Good = GoodCheck c;
  Refuses = λ _ e files. HoldsNone (rules_for (Some c.target)) c.file e files;
  Fails = FailsCheck c;
  reads = λ _. 1;
  Allows = AllowsCheck;
  Bars = λ _. ⊥;
  Makes = MakesCheck c;
  Works = HasAccepted c;
}
