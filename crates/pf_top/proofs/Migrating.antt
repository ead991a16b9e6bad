-- How the steps of `migrate` make the whole call.
use Rattle.std.proofs.Common.{◌≡◌, ◌+◌, ℕ, List, [], None, Result, Ok, Err, refl, arith, ◌∙◌}
use Rattle.pf_images.specs.Meaning.Outside.{Contents}
use Rattle.pf_outside.specs.declared.stop.Stop.{Stop}
use Rattle.pf_outside.specs.declared.stop.Stop.TheVariants.{Memory}
use Rattle.pf_outside.specs.Meaning.Formats.{Holds, Means, IsRefused}
use Rattle.pf_outside.specs.Meaning.StoreCalls.{Store}
use Rattle.pf_outside.specs.Meaning.Tasks.{EndsWith, Verdict}
use Rattle.pf_outside.specs.Steps.FileSteps.{Written}
use Rattle.pf_outside.proofs.StoreCalls.{After, after_none}
use Rattle.pf_outside.proofs.Tasks.{after_judged, stopped, wanted, written}
use Rattle.pf_rulefile.specs.Meaning.RuleFiles.{byte_limit}
use Rattle.pf_rulefile.specs.Meaning.RuleTexts.{rules_text, in_format}
use Rattle.pf_rules.specs.declared.rule_file.FileParts.{FileParts}
use Rattle.pf_top.specs.declared.fault.Failure.{Failure}
use Rattle.pf_top.specs.declared.fault.FileFault.{FileFault}
use Rattle.pf_top.specs.Meaning.Migrating.{Migrate, migrating}
use Rattle.pf_top.specs.Meaning.RuleFiles.{rules_for}
use Rattle.pf_top.specs.Steps.RunSteps.{JudgedAs}

module _ (g : Migrate) where
  -- the file stops the call
  pub rules_stopped : (b d : Store) (e : Stop FileFault Failure) → JudgedAs (rules_for None) 0 g.file b (Err e) d → EndsWith (migrating g) b (Err e) d
  rules_stopped b d e step =
      stopped (migrating g) (λ f bars. bars) (λ _. Unit {0}) 0 b b (after_none b) (Means (rules_for None)) (IsRefused (rules_for None)) g.file (byte_limit + 1) (omega arith) refl (λ m _. tt) (λ m e _ is. is) d e step

  module _ (f : FileParts) (b d : Store) (one : JudgedAs (rules_for None) 0 g.file b (Ok f) d) where
    abbrev HasFile : Contents → Type 0
    HasFile m = Holds (rules_for None) g.file f m

    has_file : After HasFile 1 b d
    has_file = after_judged (Means (rules_for None)) (IsRefused (rules_for None)) (λ _. Unit {0}) HasFile g.file (byte_limit + 1) 0 0 b b d f (λ m _ is. is) (after_none b) one

    -- memory is wanting for the text
    pub text_wanted : EndsWith (migrating g) b (Err Memory) d
    text_wanted = wanted (migrating g) (λ f bars. bars) HasFile 1 b d has_file (omega arith)

    -- the text was written, or not
    module _ (text items : List ℕ) (is : text ≡ items) (made : items ≡ rules_text (in_format 2 f)) (e : Store) where
      last : {A : Type 0} (w : Result A (Stop FileFault Failure)) (v : Verdict FileFault Failure) → Written g.out text d w e → ((x : A) → w ≡ Ok x → v ≡ Ok []) → ((s : Stop FileFault Failure) → w ≡ Err s → v ≡ Err s) → EndsWith (migrating g) b v e
      last w v step done stop = written (migrating g) (λ f bars. bars) HasFile 1 b d has_file refl [] text g.out refl (λ m held. (f, held, refl, is ∙ made)) e w v step done stop

      pub ended : {A : Type 0} (x : A) → Written {A = A} {E = FileFault} {F = Failure} g.out text d (Ok x) e → EndsWith (migrating g) b (Ok []) e
      ended x step = last (Ok x) (Ok []) step (λ y same. refl) (λ s same. absurd (cc))

      pub unended : {A : Type 0} (s : Stop FileFault Failure) → Written {A = A} g.out text d (Err s) e → EndsWith (migrating g) b (Err s) e
      unended {A} s step = last {A = A} (Err s) (Err s) step (λ y same. absurd (cc)) (λ t same. cc)
