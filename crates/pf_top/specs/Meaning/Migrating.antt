-- The command `migrate`: its words, and what they ask for.
use Rattle.std.specs.Prelude.{◌≡◌, ℕ, zero, suc, ◌+◌, List, [], ◌∷◌, Some, None, codes}
use Rattle.pf_images.specs.Meaning.Outside.{Contents}
use Rattle.pf_outside.specs.Meaning.Formats.{Holds, HoldsNone}
use Rattle.pf_outside.specs.Meaning.StoreCalls.{FileStartsWith}
use Rattle.pf_outside.specs.Meaning.Tasks.{Task}
use Rattle.pf_rulefile.specs.Meaning.RuleFiles.{byte_limit}
use Rattle.pf_rulefile.specs.Meaning.RuleTexts.{rules_text, in_format}
use Rattle.pf_rules.specs.declared.rule_file.FileParts.{FileParts}
use Rattle.pf_top.specs.declared.fault.Failure.{Failure}
use Rattle.pf_top.specs.declared.fault.FileFault.{FileFault}
use Rattle.pf_top.specs.Meaning.RuleFiles.{rules_for, IsRulesFor}

-- the words behind `migrate`
pub record Migrate : Type 0 where
  pub file : List ℕ
  pub out : List ℕ

-- the words are `migrate FILE OUT`
abbrev pub IsMigrate : List (List ℕ) → Migrate → Type 0
IsMigrate words m = words ≡ codes "migrate" ∷ m.file ∷ m.out ∷ []

-- the file has rules of any kind
abbrev pub HasRules : Migrate → Contents → Type 0
HasRules m files = (f : FileParts) × Holds (rules_for None) m.file f files

abbrev pub GoodMigrate : Migrate → ℕ → Contents → Type 0
GoodMigrate m zero files = Unit {0}
GoodMigrate m (suc n) files = HasRules m files

-- no line, and the same rules in format 2
abbrev pub Migrates : Migrate → List (List ℕ) → List ℕ → Contents → Type 0
Migrates m lines bytes files = (f : FileParts) × Holds (rules_for None) m.file f files × (lines ≡ []) × (bytes ≡ rules_text (in_format 2 f))

abbrev pub IsMigratable : Migrate → Contents → Type 0
IsMigratable m files = (f : FileParts) × FileStartsWith m.file (byte_limit + 1) (IsRulesFor None f) files

abbrev pub migrating : Migrate → Task FileFault Failure
migrating m = record {
  names = m.file ∷ [];
  out = Some m.out;
  Good = GoodMigrate m;
  Refuses = λ _ e files. HoldsNone (rules_for None) m.file e files;
  Fails = λ _ _. ⊥;
  reads = λ _. 1;
  Allows = λ _. ⊥;
  Bars = λ _. ⊥;
  Makes = Migrates m;
  Works = IsMigratable m;
}
