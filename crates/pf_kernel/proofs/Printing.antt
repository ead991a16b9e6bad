-- A kernel's terms can be printed.
use Rattle.std.proofs.Common.{◌≡◌, ap, sym, ◌∙◌, subst, ℕ, zero, suc, ◌+◌, ◌<◌, drop, List, [], ◌∷◌, ◌++◌, length, map, get_or, append_assoc, append-nil, arith, true}
use Rattle.std.specs.List.{flat_map}
use Rattle.std.proofs.lemmas.List.{drop_more}
use Rattle.pf_values.specs.declared.kernel.Definition.{Definition}
use Rattle.pf_values.specs.declared.names.DefName.{DefName}
use Rattle.pf_values.specs.declared.names.Names.{Names}
use Rattle.pf_values.specs.declared.names.Tap.{Tap as TapOf}
use Rattle.pf_values.specs.declared.term.Term.{Term}
use Rattle.pf_values.specs.Meaning.NamedTerms.{is_named}
use Rattle.pf_kernel.specs.Meaning.Kernels.{Meaning, IsKernelOf, AreDefinitions, def_name, names_of}
use Rattle.pf_kernel.specs.Steps.Printable.{IsPrintable}
use Rattle.pf_kernel.proofs.Extending.{StaysNamed, stays_named}

-- the same names with more definitions
abbrev pub more_defs : Names → List DefName → Names
more_defs a defs = record a { defs = a.defs ++ defs }

pub stays_with_defs : (a : Names) (defs : List DefName) (t : Term) → is_named a t ≡ true → StaysNamed a (more_defs a defs) t
stays_with_defs a defs t h = subst (λ (taps : List TapOf). StaysNamed a (record a { taps = taps; defs = a.defs ++ defs }) t) (append-nil a.taps) (stays_named a [] defs t h)

one_more : (a : Names) (d : DefName) (ds : List DefName) → more_defs (more_defs a (d ∷ [])) ds ≡ more_defs a (d ∷ ds)
one_more a d ds = ap (λ (xs : List DefName). record a { defs = xs }) (append_assoc a.defs (d ∷ []) ds)

all_printable : (a : Names) (ds : List Definition) → AreDefinitions a ds → (k : ℕ) (d : Definition) → k < length ds → IsPrintable (more_defs a (map def_name ds)) (get_or ds k d).term
all_printable a [] h k d less = absurd (omega arith)
all_printable a (e ∷ ds) h zero d less = record { formed = h.0.formed.formed; named = (stays_with_defs a (map def_name (e ∷ ds)) e.term h.0.named).named }
all_printable a (e ∷ ds) h (suc k) d less =
    subst (λ (names : Names). IsPrintable names (get_or ds k d).term) (one_more a (def_name e) (map def_name ds)) (all_printable (more_defs a (def_name e ∷ [])) ds h.1 k d (omega arith))

pub defs_printable : (k : Meaning) → IsKernelOf k → (n : ℕ) (d : Definition) → n < length k.source.defs → IsPrintable (names_of k.source) (get_or k.source.defs n d).term
defs_printable k h n d less = all_printable _ k.source.defs h.defs n d less

-- one more text is written
pub written_next : {A : Type 0} (f : A → List ℕ) (xs : List A) (i : ℕ) (x : A) (text now whole : List ℕ) → i < length xs → x ≡ get_or xs i x → now ≡ text ++ f x →
    text ++ flat_map f (drop i xs) ≡ whole → now ++ flat_map f (drop (i + 1) xs) ≡ whole
written_next f xs i x text now whole below at is onward =
    ap (λ t. t ++ flat_map f (drop (i + 1) xs)) is ∙ append_assoc text (f x) (flat_map f (drop (i + 1) xs))
    ∙ ap (λ ys. text ++ flat_map f ys) (ap (λ y. y ∷ drop (i + 1) xs) at ∙ sym (drop_more xs i x below)) ∙ onward
