-- The answer to a line with an expression, by the answer to the expression.
use Rattle.std.proofs.Common.{◌≡◌, refl, sym, ◌∙◌, ap, subst, inl, inr, ℕ, ◌+◌, Bool, true, false, List, ◌∷◌, length}
use Rattle.std.specs.Prelude.{◌⊎◌, Option, Some, Result, Ok, Err}
use Rattle.std.specs.Option.{option_or}
use Rattle.pf_ints.specs.declared.lane.LaneType.{LaneType}
use Rattle.pf_terms.specs.declared.parse.syntax_tree.SyntaxTree.{SyntaxTree}
use Rattle.pf_terms.specs.declared.meaning.ReadFault.{ReadFault}
use Rattle.pf_terms.specs.declared.meaning.ReadFault.TheVariants.{Syntax, Name, Memory}
use Rattle.pf_values.specs.declared.names.Names.{Names}
use Rattle.pf_values.specs.declared.term.Term.{Term}
use Rattle.pf_terms.specs.Meaning.Meanings.{first_some}
use Rattle.pf_kernel.specs.declared.front.Front.TheVariants.{Def as DefFront, Out as OutFront}
use Rattle.pf_kernel.specs.Steps.Expressions.{Judges}
use Rattle.pf_kernel.specs.Meaning.Lines.{Begun, names_in, nodes_in, taken, is_taken, if_so, expression_faults}
use Rattle.pf_kernel.specs.Steps.Readings.{IsExpressionFault, unless_taken}

-- nothing is told of a name that is free
pub free_first : (b : Begun) (n : List ℕ) (rest : List (Option ReadFault)) → is_taken (names_in b) n ≡ false → first_some (taken b n ∷ rest) ≡ first_some rest
free_first b n rest h = ap (λ v. option_or (if_so v (Name n)) (first_some rest)) h

pub taken_first : (b : Begun) (n : List ℕ) (rest : List (Option ReadFault)) → is_taken (names_in b) n ≡ true → first_some (taken b n ∷ rest) ≡ Some (Name n)
taken_first b n rest h = ap (λ v. option_or (if_so v (Name n)) (first_some rest)) h

-- ---- what is told of a definition
module _ (b : Begun) (n : List ℕ) (ty : LaneType) (text : List ℕ) (now : Names) where
  abbrev its_faults : SyntaxTree → List (Option ReadFault)
  its_faults d = expression_faults (names_in b) (nodes_in b) ty (length b.defs + 1) d

  -- the answer to its expression
  abbrev Judged : Result Term ReadFault → Type 0
  Judged r = Judges (names_in b) (nodes_in b) ty (length b.defs + 1) text r now

  abbrev Told : ReadFault → Type 0
  Told e = IsExpressionFault b (DefFront n ty) text e ⊎ (e ≡ Memory)

  same_err : (e f : ReadFault) → ◌≡◌ {A = Result Term ReadFault} (Err f) (Err e) → f ≡ e
  same_err e f h = cc

  -- what is told of an expression, where no name is in its way
  free_told : (f : ReadFault) → is_taken (names_in b) n ≡ false → Judged (Err f) → Told f
  free_told (Syntax column) t h = inl h
  free_told Memory t h = inr refl
  free_told f t h = inl (h.0, h.1, free_first b n (its_faults h.0) t ∙ h.2)

  pub def_refused : (r : Result Term ReadFault) (v : Bool) (e : ReadFault) → v ≡ is_taken (names_in b) n → Judged r → Err e ≡ unless_taken v n r → Told e
  def_refused (Err (Syntax column)) v e t h told = subst Told (sym (same_err _ _ told)) (inl h)
  def_refused (Err Memory) v e t h told = inr (same_err _ _ told)
  def_refused (Ok x) false e t h told = absurd (cc)
  def_refused (Err f) false e t h told = subst Told (sym (same_err _ _ told)) (free_told f (sym t) h)
  def_refused _ true e t h told = subst Told (sym (same_err _ _ told)) (inl (h.0, h.1, taken_first b n (its_faults h.0) (sym t)))

  -- what was read, where no name is in its way
  pub taken_apart : (r : Result Term ReadFault) (v : Bool) (x : Term) → Ok x ≡ unless_taken v n r → (v ≡ false) × (r ≡ Ok x)
  taken_apart (Ok y) true x told = absurd (cc)
  taken_apart (Ok y) false x told = (refl, sym told)
  taken_apart (Err (Syntax c)) v x told = absurd (cc)
  taken_apart (Err Memory) v x told = absurd (cc)
  taken_apart (Err f) true x told = absurd (cc)
  taken_apart (Err f) false x told = absurd (cc)

-- what is told of an output
pub out_refused : (b : Begun) (ty : LaneType) (text : List ℕ) (now : Names) (e : ReadFault) → Judges (names_in b) (nodes_in b) ty (length b.defs) text (Err e) now → IsExpressionFault b (OutFront ty) text e ⊎ (e ≡ Memory)
out_refused b ty text now (Syntax column) h = inl h
out_refused b ty text now Memory h = inr refl
out_refused b ty text now e h = inl h
