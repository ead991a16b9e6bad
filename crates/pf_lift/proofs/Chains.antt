-- Steps of an operand are steps of its node, and chains compose.
use Rattle.std.proofs.Common.{◌≡◌, refl, sym, ap, ◌∙◌, subst, ℕ, zero, suc, ◌+◌, ◌<◌, List, [], ◌∷◌, ◌++◌, length, Option, Some, None, arith, ◌⊎◌, inl, inr}
use Rattle.std.specs.Prelude.{slice_get}
use Rattle.pf_ints.specs.declared.lane.LaneType.{LaneType}
use Rattle.pf_values.specs.declared.op.Op.{Op}
use Rattle.pf_values.specs.declared.term.Term.{Term}
use Rattle.pf_values.specs.declared.term.Term.TheVariants.{Node}
use Rattle.pf_bounds.specs.declared.ranges.Ranges.{Ranges}
use Rattle.pf_bounds.specs.Meaning.TermBounds.{operands, part_of}
use Rattle.pf_bounds.proofs.PlaceLaws.{operands_node}
use Rattle.pf_check.specs.declared.checked.CheckedParts.{CheckedParts}
use Rattle.pf_rules.proofs.InstanceLaws.{Each}
use Rattle.pf_lift.specs.Meaning.Rewriting.{NoMatch, Rewrites, IsEarlier, Changed, Next, Chain, IsNormal}
use Rattle.pf_lift.proofs.Lists.{each_get, get_front, get_here, part_below}

module _ (rules : List CheckedParts) (ranges : Ranges) where
  abbrev pub Normal : Term → Type 0
  Normal t = IsNormal rules ranges t

  -- a term whose operands are normal is rewritten at its root
  pub next_root : (t u : Term) → Each Normal (operands t) → Rewrites rules ranges t u → Next rules ranges t u
  next_root t u each h = record { path = []; first = first; changed = h }
    where
      first : (q : List ℕ) (x : Term) → IsEarlier q [] → part_of t q ≡ Some x → NoMatch rules ranges x
      first [] x early e = absurd early
      first (i ∷ q) x early e = let below = part_below t i q x e in each_get Normal (operands t) i below.0 each below.1 q x below.2

  -- a term whose operands are normal is normal where no rule matches it
  pub normal_root : (t : Term) → Each Normal (operands t) → NoMatch rules ranges t → Normal t
  normal_root t each none [] x e = let is : t ≡ x = cc e in subst (NoMatch rules ranges) is none
  normal_root t each none (i ∷ q) x e = let below = part_below t i q x e in each_get Normal (operands t) i below.0 each below.1 q x below.2

  module _ (op : Op) (ty : LaneType) (k : ℕ) (before after : List Term) (each : Each Normal before) where
    abbrev node : Term → Term
    node x = Node op ty k (before ++ x ∷ after)

    operand_at : (x : Term) (j : ℕ) → slice_get (operands (node x)) j ≡ slice_get (before ++ x ∷ after) j
    operand_at x j = ap (λ ts. slice_get ts j) (operands_node (node x) op ty k (before ++ x ∷ after) refl)

    -- the first operand that isn't normal is rewritten
    pub next_below : (x y : Term) → Next rules ranges x y → Next rules ranges (node x) (node y)
    next_below x y h = record {
      path = length before ∷ h.path;
      first = first;
      changed = (x, y, record { op = op; ty = ty; k = k; before = before; after = after; here = refl; one = refl; other = refl }, h.changed);
    }
      where
        first : (q : List ℕ) (z : Term) → IsEarlier q (length before ∷ h.path) → part_of (node x) q ≡ Some z → NoMatch rules ranges z
        first [] z early e = absurd early
        first (j ∷ q) z (inl low) e =
            let below = part_below (node x) j q z e in
            each_get Normal before j below.0 each (sym (get_front before (x ∷ after) j low) ∙ sym (operand_at x j) ∙ below.1) q z below.2
        first (j ∷ q) z (inr same) e =
            let below = part_below (node x) j q z e in
            let at : Some x ≡ Some below.0 = sym (get_here before after x j same.0) ∙ sym (operand_at x j) ∙ below.1 in
            let is : below.0 ≡ x = cc (sym at) in
            h.first q z same.1 (subst (λ w. part_of w q ≡ Some z) is below.2)

    pub chain_below : (n : ℕ) (x y : Term) → Chain rules ranges n x y → Chain rules ranges n (node x) (node y)
    chain_below zero x y h = ap node h
    chain_below (suc n) x y h = (node h.0, next_below x h.0 h.1, chain_below n h.0 y h.2)

  pub chain_append : (m n : ℕ) (t u v : Term) → Chain rules ranges m t u → Chain rules ranges n u v → Chain rules ranges (m + n) t v
  chain_append zero n t u v h k =
      let e : n ≡ zero + n = omega arith in
      subst (λ i. Chain rules ranges i t v) e (subst (λ s. Chain rules ranges n s v) (sym h) k)
  chain_append (suc m) n t u v h k =
      let e : suc (m + n) ≡ suc m + n = omega arith in
      let rest : Chain rules ranges (suc (m + n)) t v = (h.0, h.1, chain_append m n h.0 u v h.2 k) in
      subst (λ i. Chain rules ranges i t v) e rest
