-- Chains that are read link by link.
use Rattle.std.proofs.Common.{◌≡◌, refl, sym, ap, ◌∙◌, ℕ, zero, suc, ◌-◌, ◌<◌, List, ◌∷◌, false, arith}
use Rattle.std.specs.Prelude.{Option, Some, None, codes}
use Rattle.pf_values.specs.declared.op.Op.{Op}
use Rattle.std.specs.Str.{bytes_eq}
use Rattle.pf_rulefile.specs.declared.word.Language.{Language}
use Rattle.pf_rulefile.specs.declared.word.Language.TheVariants.{Operators, Lanes}
use Rattle.pf_rulefile.specs.Meaning.Grammar.{no_amount}
use Rattle.pf_rulefile.specs.Steps.Fronts.{after}
use Rattle.pf_rulefile.specs.Steps.NumberReads.{exponent_read}
use Rattle.pf_rulefile.specs.Steps.SideReads.{Read, chain, Algebra, pair_link, operands_more, loose_more, atom_read, operators_by, lanes_by, whole_read, language_read, side_read}

module _ (P : Type 0) (sign : List (List ℕ) → Option (Op × List (List ℕ))) (link : P → Op → List (List ℕ) → Read P) (p : P) (ts : List (List ℕ)) where
  module _ (o : Op) (us : List (List ℕ)) (e : sign ts ≡ Some (o, us)) where
    pub chain_step : (most : ℕ) (q : P) (vs : List (List ℕ)) → 0 < most → link p o us ≡ Some (q, vs) → chain sign link most p ts ≡ chain sign link (most - 1) q vs
    chain_step zero q vs h f = absurd (omega arith)
    chain_step (suc most) q vs h f =
        let less : most ≡ suc most - 1 = omega arith in
        rw e (rw f refl) ∙ ap (λ (n : ℕ). chain sign link n q vs) less

module _ (P : Type 0) (alg : Algebra P) (operand : List (List ℕ) → Read P) (p q r : P) (ts us vs : List (List ℕ)) where
  pub pair_step : (sign : List (List ℕ) → Option (Op × List (List ℕ))) (o : Op) (most : ℕ) → 0 < most → sign ts ≡ Some (o, us) → operand us ≡ Some (q, vs) → r ≡ alg.node o None no_amount (alg.join p q) →
      chain sign (pair_link alg operand) most p ts ≡ chain sign (pair_link alg operand) (most - 1) r vs
  pair_step sign o most h e f g = chain_step P sign (pair_link alg operand) p ts o us e most r vs h (rw f (ap (λ (x : P). Some (x, vs)) (sym g)))

  pub operands_step : (more : ℕ) → 0 < more → after (codes ",") ts ≡ Some us → operand us ≡ Some (q, vs) → r ≡ alg.join p q → operands_more alg operand more p ts ≡ operands_more alg operand (more - 1) r vs
  operands_step zero h e f g = absurd (omega arith)
  operands_step (suc more) h e f g =
      let less : more ≡ suc more - 1 = omega arith in
      rw e (rw f refl) ∙ ap (λ (x : P). operands_more alg operand more x vs) (sym g) ∙ ap (λ (n : ℕ). operands_more alg operand n r vs) less

  pub loose_step : (most depth left : ℕ) → 0 < left → after (codes ",") ts ≡ Some us → exponent_read most depth us ≡ None → operand us ≡ Some (q, vs) → r ≡ alg.join p q →
      loose_more alg most depth operand left p ts ≡ loose_more alg most depth operand (left - 1) r vs
  loose_step most depth zero h e n f g = absurd (omega arith)
  loose_step most depth (suc left) h e n f g =
      let less : left ≡ suc left - 1 = omega arith in
      rw e (rw n (rw f refl)) ∙ ap (λ (x : P). loose_more alg most depth operand left x vs) (sym g) ∙ ap (λ (n : ℕ). loose_more alg most depth operand n r vs) less

-- ---- by the language
module _ {P : Type 0} (alg : Algebra P) (most : ℕ) (l : Language) where
  pub side_by_operators : (depth : ℕ) (ts : List (List ℕ)) → (depth ≡ 0 → ⊥) → l ≡ Operators → side_read alg most l depth ts ≡ whole_read alg most (side_read alg most Operators (depth - 1)) (depth - 1) ts
  side_by_operators zero ts h e = absurd (h refl)
  side_by_operators (suc depth) ts h e =
      let less : depth ≡ suc depth - 1 = omega arith in
      ap (λ x. side_read alg most x (suc depth) ts) e ∙ ap (λ (n : ℕ). whole_read alg most (side_read alg most Operators n) n ts) less

  pub side_by_lanes : (depth : ℕ) (ts : List (List ℕ)) → (depth ≡ 0 → ⊥) → l ≡ Lanes → side_read alg most l depth ts ≡ atom_read alg most l (side_read alg most l (depth - 1)) (depth - 1) ts
  side_by_lanes zero ts h e = absurd (h refl)
  side_by_lanes (suc depth) ts h e =
      let less : depth ≡ suc depth - 1 = omega arith in
      ap (λ x. language_read alg most x (side_read alg most l depth) depth ts) e ∙ ap (λ x. atom_read alg most x (side_read alg most l depth) depth ts) (sym e) ∙ ap (λ (n : ℕ). atom_read alg most l (side_read alg most l n) n ts) less

  module _ (depth : ℕ) (w : List ℕ) (ts rest : List (List ℕ)) (place : ts ≡ w ∷ rest) (bracket : bytes_eq w (codes "(") ≡ false) (brace : bytes_eq w (codes "{") ≡ false) where
    pub atom_by_operators : l ≡ Operators → atom_read alg most l (side_read alg most l depth) depth ts ≡ operators_by alg most (side_read alg most Operators depth) depth w rest
    atom_by_operators e = ap (λ x. atom_read alg most x (side_read alg most x depth) depth ts) e ∙ ap (λ (us : List (List ℕ)). atom_read alg most Operators (side_read alg most Operators depth) depth us) place ∙ rw (bracket, brace) refl

    pub atom_by_lanes : l ≡ Lanes → atom_read alg most l (side_read alg most l depth) depth ts ≡ lanes_by alg most (side_read alg most Lanes depth) depth w rest
    atom_by_lanes e = ap (λ x. atom_read alg most x (side_read alg most x depth) depth ts) e ∙ ap (λ (us : List (List ℕ)). atom_read alg most Lanes (side_read alg most Lanes depth) depth us) place ∙ rw (bracket, brace) refl
