-- Files whose rules are checked.
use Rattle.std.proofs.Common.{◌≡◌, refl, sym, ap, ◌∙◌, subst, ℕ, zero, suc, ◌+◌, ◌-◌, ◌≤◌, Bool, true, Some, None, List, [], ◌∷◌, ◌++◌, map, length, take, drop, get_or, append_assoc, arith, Ok, Err, IfOk}
use Rattle.std.proofs.lemmas.List.{take_all}
use Rattle.std.specs.Prelude.{Option, Result, slice_get, option_map, ◌&&◌, ◌||◌, ◌==◌}
use Rattle.pf_values.specs.Meaning.Terms.{all_true}
use Rattle.pf_values.proofs.Typing.{and_left, and_right}
use Rattle.pf_rules.specs.declared.rule.Kind.{Kind}
use Rattle.pf_rules.specs.declared.rule.RuleParts.{RuleParts}
use Rattle.pf_rules.specs.Meaning.Rules.{suits}
use Rattle.pf_rules.specs.declared.rule_file.FileParts.{FileParts}
use Rattle.pf_rules.specs.Meaning.Files.{are_rules, is_step, is_file}
use Rattle.pf_check.specs.declared.checked.CheckedParts.{CheckedParts}
use Rattle.pf_check.specs.declared.fault.RuleFault.{RuleFault}
use Rattle.pf_check.specs.declared.fault.RuleFault.TheVariants as told
use Rattle.pf_check.specs.Meaning.Faults.{Fault, Tells}
use Rattle.pf_check.specs.Meaning.Files.{known, rule_of, entry, AreOfKind, AllSuit, AreOutcomes, IsOutcome, left_of, refused_or, IsNamed, TellsRefused}
use Rattle.pf_check.specs.Steps.Pairs.{Continues}
use Rattle.pf_check.proofs.StepLaws.{told_none}

pub all_suit : (allowed : Bool) (kind : Kind) (n : ℕ) (rs : List RuleParts) → are_rules allowed kind n rs ≡ true → AllSuit kind rs
all_suit allowed kind n [] h = tt
all_suit allowed kind n (r ∷ rs) h =
    let here = and_left (suits kind r && all_true (map (is_step allowed n) r.steps)) (are_rules allowed kind (n + 1) rs) h in
    let later = and_right (suits kind r && all_true (map (is_step allowed n) r.steps)) (are_rules allowed kind (n + 1) rs) h in
    (and_left (suits kind r) (all_true (map (is_step allowed n) r.steps)) here, all_suit allowed kind (n + 1) rs later)

pub known_entries : (kind : Kind) (rs : List RuleParts) → known (map (entry kind) rs) ≡ map (rule_of kind) rs
known_entries kind [] = refl
known_entries kind (r ∷ rs) = ap (λ cs. rule_of kind r ∷ cs) (known_entries kind rs)

pub some_known : (kind : Kind) (rs : List RuleParts) → map Some (known (map (entry kind) rs)) ≡ map (entry kind) rs
some_known kind [] = refl
some_known kind (r ∷ rs) = ap (λ cs. entry kind r ∷ cs) (some_known kind rs)

pub of_kind : (kind : Kind) (rs : List RuleParts) → AreOfKind kind (map (rule_of kind) rs)
of_kind kind [] n c e = absurd (cc)
of_kind kind (r ∷ rs) zero c e = let is : rule_of kind r ≡ c = cc in ap (λ d. d.kind) (sym is)
of_kind kind (r ∷ rs) (suc n) c e = of_kind kind rs n c e

-- item n of a list without gaps
pub known_at : (os : List (Option CheckedParts)) (n : ℕ) (cs : List CheckedParts) → os ≡ map Some cs → slice_get os n ≡ option_map Some (slice_get cs n)
known_at os n cs e = ap (λ xs. slice_get xs n) e ∙ at cs n
  where
    at : (cs : List CheckedParts) (n : ℕ) → slice_get (map Some cs) n ≡ option_map Some (slice_get cs n)
    at [] n = refl
    at (c ∷ cs) zero = refl
    at (c ∷ cs) (suc n) = at cs n

is_named : (e : RuleFault) (name : List ℕ) → IsNamed e name (Some name)
is_named told.Memory name = tt
is_named _ name = refl

pub refused_first : (r : RuleParts) (e : RuleFault) (o : Option Fault) (rest : Option (RuleParts × Fault)) → Tells e o → TellsRefused r.name e (refused_or r o rest)
refused_first r e (Some x) rest h = (h, is_named e r.name)
refused_first r e None rest h = rw (told_none e h) (tt, tt)

pub suits_of : (f : FileParts) → is_file f ≡ true → AllSuit f.kind f.rules
suits_of f h = all_suit (f.format == 2) f.kind 0 f.rules (and_right ((f.format == 1) || (f.format == 2)) (are_rules (f.format == 2) f.kind 0 f.rules) h)

-- one more rule of which something is said
pub continues_next : {E : Type 0} (kind : Kind) (earlier next : List (Option CheckedParts)) (r : RuleParts) (rules rest : List RuleParts) (before after : List (Option RuleFault)) (o : Option RuleFault) (result : Result (List (Option RuleFault)) E)
    → rules ≡ r ∷ rest → next ≡ earlier ++ left_of kind r o ∷ [] → after ≡ before ++ o ∷ [] → IsOutcome kind earlier r o → IfOk result (Continues kind next rest after) → IfOk result (Continues kind earlier rules before)
continues_next kind earlier next r rules rest before after o (Err e) is left more here h = tt
continues_next kind earlier next r rules rest before after o (Ok all) is left more here (os, joined, are) =
    (o ∷ os, joined ∙ ap (λ xs. xs ++ os) more ∙ append_assoc before (o ∷ []) os, subst (λ rs. AreOutcomes kind earlier rs (o ∷ os)) (sym is) (here, subst (λ es. AreOutcomes kind es rest os) left are))

-- a list is its first item and the others
pub first_and_rest : {A : Type 0} (xs : List A) (x : A) → 1 ≤ length xs → x ≡ get_or xs 0 x → xs ≡ x ∷ take (length xs - 1) (drop 1 xs)
first_and_rest [] x some is = absurd (omega (arith, some))
first_and_rest (y ∷ xs) x some is =
    let whole : take (suc (length xs) - 1) xs ≡ xs = take_all (suc (length xs) - 1) xs (omega arith) in
    ap (λ z. z ∷ xs) (sym is) ∙ ap (λ zs. x ∷ zs) (sym whole)
