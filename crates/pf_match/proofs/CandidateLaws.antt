-- What an index finds are the candidates of a term, and each rule that matches is among them.
use Rattle.std.proofs.Common.{◌≡◌, refl, sym, ap, ◌∙◌, subst, ℕ, zero, suc, ◌+◌, ◌==◌, pos, Bool, true, false, List, [], ◌∷◌, length, map, Option, Some, None, Ok, arith}
use Rattle.std.specs.Prelude.{Contains, ◌&&◌, slice_get, option_map, Result, Err, not}
use Rattle.std.proofs.lemmas.Bool.{and_parts, eq-eqb}
use Rattle.std.proofs.lemmas.List.{length-map}
use Rattle.std.proofs.lemmas.Option.{slice_get-map}
use Rattle.pf_ints.specs.declared.lane.LaneType.{LaneType}
use Rattle.pf_ints.specs.Meaning.Lanes.{is_in}
use Rattle.pf_values.specs.declared.op.Op.{Op}
use Rattle.pf_values.specs.declared.term.Leaf.TheVariants.{Const as Number}
use Rattle.pf_values.specs.declared.term.Term.{Term}
use Rattle.pf_values.specs.declared.term.Term.TheVariants as term
use Rattle.pf_values.specs.declared.term.Term.TheOpen.Term-F.{Node as TermLayer}
use Rattle.pf_values.specs.declared.term.Term.TheFolds.{fold-roll-Term}
use Rattle.pf_values.specs.Meaning.Operators.{row_of}
use Rattle.pf_values.specs.Meaning.Terms.{stated_type, IsWellTyped, operand_count, node_type, unless_differs, type_fault, is_amount, first_width, all_true}
use Rattle.pf_values.proofs.TermRanges.{AreTyped, typed_node, stated_node, stated_leaf, formed_leaf}
use Rattle.pf_bounds.specs.declared.ranges.Ranges.{Ranges}
use Rattle.pf_rules.specs.declared.fault.SortFault.{SortFault}
use Rattle.pf_rules.specs.declared.instances.Binding.{Binding}
use Rattle.pf_rules.specs.declared.pattern.PatType.{PatType}
use Rattle.pf_rules.specs.declared.pattern.Pattern.{Pattern}
use Rattle.pf_rules.specs.declared.pattern.Pattern.TheVariants.{Var, Const}
use Rattle.pf_rules.specs.declared.rule.Kind.TheVariants.{Lift}
use Rattle.pf_rules.specs.declared.rule.RuleParts.{RuleParts}
use Rattle.pf_rules.specs.declared.rule.VarDecl.{VarDecl}
use Rattle.pf_rules.specs.Meaning.Counts.{is_formed, formed_step, is_formed_op, is_bare, bare_step}
use Rattle.pf_rules.specs.Meaning.Instances.{instance_of, instance_by, HaveTypes}
use Rattle.pf_rules.specs.Meaning.Rules.{is_rule, is_widths, is_free_shift, is_within_limits, has_sides, pairs}
use Rattle.pf_rules.specs.Meaning.Sorts.{place, sorting, sort_step, types_from, type_of_var, lane_at, stated_at, states, is_stated, op_gives, op_type, has_op_amount, judged}
use Rattle.pf_rules.proofs.InstanceLaws.{fold_var, fold_const, fold_node, AllBoth, instance_goes}
use Rattle.pf_match.specs.declared.key.RuleKey.{RuleKey}
use Rattle.pf_match.specs.Meaning.Matches.{IsMatch, at_binding}
use Rattle.pf_match.specs.Meaning.Candidates.{term_root, term_root_step, pattern_root, pattern_root_step, MayMatch, AreCandidates, HasEachMatch, type_or_none, types_at, key_of}
use Rattle.pf_match.specs.Steps.Keys.{place_of, has_place, has_type, is_for, numbers_for}
use Rattle.pf_match.specs.Steps.Lists.{numbers_at, found}
use Rattle.pf_match.proofs.KeyLaws.{place_is, has_own_place, type_found, has_found, at_pair, typed_at, number_is, number_of, ascending}

type_told : (o : Result LaneType SortFault) (ty : LaneType) → type_or_none o ≡ Some ty → o ≡ Ok ty
type_told (Ok t) ty h = let is : t ≡ ty = cc h in ap Ok is
type_told (Err e) ty h = absurd (cc h)

-- a key tells whether its rule may match
may_match : (r : RuleParts) (t : Term) (op : Op) → term_root t ≡ Some op → is_for (place_of op) (stated_type t) (key_of r) ≡ true → MayMatch r t
may_match r t op root h =
    let both = and_parts (has_place (place_of op) (pattern_root r.lhs)) (has_type (stated_type t) (types_at r (pairs r))) h in
    let at = at_pair r (pairs r) (stated_type t) (type_found (stated_type t) (types_at r (pairs r)) both.1) in
    record {
      op = op;
      left = place_is (pattern_root r.lhs) op both.0;
      root = root;
      at = at.0;
      stated = at.1;
      typed = type_told (sorting true Lift (place at.0.w at.0.k r.vars) r.lhs) (stated_type t) at.2;
    }

is_found : (r : RuleParts) (t : Term) (h : MayMatch r t) → is_for (place_of h.op) (stated_type t) (key_of r) ≡ true
is_found r t h =
    let own = has_own_place (pattern_root r.lhs) h.op h.left in
    let typed = has_found (stated_type t) (types_at r (pairs r)) (typed_at r (pairs r) h.at (stated_type t) h.stated (ap type_or_none h.typed)) in
    rw (own, typed) refl

key_told : (rules : List RuleParts) (i : ℕ) (key : RuleKey) → slice_get (map key_of rules) i ≡ Some key → (r : RuleParts) × (slice_get rules i ≡ Some r) × (key_of r ≡ key)
key_told rules i key e = by (slice_get rules i) refl (sym (slice_get-map key_of rules i) ∙ e)
  where
    by : (o : Option RuleParts) → slice_get rules i ≡ o → option_map key_of o ≡ Some key → (r : RuleParts) × (slice_get rules i ≡ Some r) × (key_of r ≡ key)
    by None f g = absurd (cc g)
    by (Some r) f g = (r, f, cc g)

-- what an index of the rules finds for a term are its candidates
found_are : (rules : List RuleParts) (t : Term) (o : Option Op) → term_root t ≡ o → AreCandidates rules t (numbers_at (map key_of rules) (stated_type t) o)
found_are rules t None root = record {
  ascending = λ i j d less below. absurd (omega (arith, below));
  each = λ m h. absurd (omega (arith, h.1));
  all = λ n r at h. let none : Some h.op ≡ None = sym h.root ∙ root in absurd (cc none);
}
found_are rules t (Some op) root = record {
  ascending = ascending (place_of op) (stated_type t) 0 (map key_of rules);
  each = λ m h.
      let number = number_is (place_of op) (stated_type t) 0 (map key_of rules) m h in
      let told = key_told rules number.0 number.1 number.3 in
      (number.0, told.0, number.2 ∙ ap pos (let e : 0 + number.0 ≡ number.0 = omega arith in e), told.1, may_match told.0 t op root (ap (is_for (place_of op) (stated_type t)) told.2 ∙ number.4));
  all = λ n r at h.
      let same : h.op ≡ op = let e : Some h.op ≡ Some op = sym h.root ∙ root in cc e in
      let own = subst (λ o. is_for (place_of o) (stated_type t) (key_of r) ≡ true) same (is_found r t h) in
      subst (λ m. Contains (numbers_for (place_of op) (stated_type t) 0 (map key_of rules)) (pos m)) (let e : 0 + n ≡ n = omega arith in e)
      (number_of (place_of op) (stated_type t) 0 (map key_of rules) n (key_of r) (slice_get-map key_of rules n ∙ ap (option_map key_of) at) own);
}

pub are_candidates : (rules : List RuleParts) (t : Term) → AreCandidates rules t (found (map key_of rules) t)
are_candidates rules t = found_are rules t (term_root t) refl

-- ---- a rule that matches may match

-- the instance of a pattern that is no bare variable or number is a node of the pattern's operator
abbrev Rooted : Pattern → Term → Type 0
Rooted p t = is_bare p ≡ false → (op : Op) × (pattern_root p ≡ Some op) × (term_root t ≡ Some op)

bare_not : {A : Type 0} (b : Bool) → b ≡ true → b ≡ false → A
bare_not b bare other = let both : true ≡ false = sym bare ∙ other in absurd (cc both)

roots_same : (w k : ℕ) (f : ℕ → Option Term) (p : Pattern) (t : Term) → instance_by w k f p ≡ Some t → Rooted p t
roots_same w k f = instance_goes w k f Rooted
    (λ n t h bare. bare_not (is_bare (Var n)) (fold_var bare_step n) bare)
    (λ n ty t h bare. bare_not (is_bare (Const n ty)) (fold_const bare_step n ty) bare)
    (λ op to amount args t h each bare. (
      op,
      fold_node (λ layer. pattern_root_step layer) op to amount args,
      ap term_root (sym h.is) ∙ node_root op _ h.k h.operands,
    ))
  where
    node_root : (op : Op) (ty : LaneType) (k : ℕ) (ts : List Term) → term_root (term.Node op ty k ts) ≡ Some op
    node_root op ty k ts = ap term_root (sym (term.rolls-Node op ty k ts)) ∙ fold-roll-Term (Option Op) (λ layer. term_root_step layer) (TermLayer op ty k ts)

-- a bound term has its variable's type
var_typed : (w k : ℕ) (ds : List VarDecl) (ts : List Term) (n : ℕ) (t : Term) → HaveTypes w ds ts → slice_get ts n ≡ Some t → type_of_var (place w k ds) n ≡ Some (stated_type t)
var_typed w k [] [] n t h e = absurd (cc e)
var_typed w k [] (x ∷ ts) n t h e = absurd h
var_typed w k (d ∷ ds) [] n t h e = absurd h
var_typed w k (d ∷ ds) (x ∷ ts) zero t h e = let is : x ≡ t = cc e in h.0 ∙ ap (λ y. Some (stated_type y)) is
var_typed w k (d ∷ ds) (x ∷ ts) (suc n) t h e = var_typed w k ds ts n t h.1 e

stated_alike : (b : Bool) (w : ℕ) (to : Option PatType) (s : Option LaneType) → stated_at w to ≡ Some s → is_stated b to ≡ true → is_stated b s ≡ true
stated_alike b w None s e h = let is : None ≡ s = cc e in subst (λ o. is_stated b o ≡ true) is h
stated_alike b w (Some ty) s e h = by (lane_at w ty) e
  where
    by : (o : Option LaneType) → option_map Some o ≡ Some s → is_stated b s ≡ true
    by None g = absurd (cc g)
    by (Some u) g = let is : Some u ≡ s = cc g in subst (λ o. is_stated b o ≡ true) is h

no_fault : (o : Option (LaneType × LaneType)) (fits : Bool) (ty u : LaneType) (k : ℕ) → unless_differs o fits ty k ≡ Ok u → (o ≡ None) × (fits ≡ true)
no_fault (Some p) fits ty u k h = absurd (cc h)
no_fault None true ty u k h = (refl, refl)
no_fault None false ty u k h = absurd (cc h)

-- a node of a well-typed term has the type by the table of operators
node_judged : (op : Op) (to : Option LaneType) (k : ℕ) (types : List LaneType) → length types ≡ operand_count (row_of op).operands → is_stated (states (row_of op).gives) to ≡ true →
    node_type (row_of op) (op_gives op to types) k types ≡ Ok (op_gives op to types) → judged true (op_type op to types) (has_op_amount op types) (Some (pos k)) ≡ Ok (op_gives op to types)
node_judged op to k types count stated node =
    let facts = no_fault (type_fault (row_of op) (op_gives op to types) types) (is_amount (row_of op).amounts (first_width types) k) (op_gives op to types) (op_gives op to types) k node in
    let many : (length types == operand_count (row_of op).operands) ≡ true = eq-eqb (length types) (operand_count (row_of op).operands) count in
    let typed : op_type op to types ≡ Some (op_gives op to types) = rw (many, stated, facts.0) refl in
    rw (typed, facts.1) refl

module _ (b : Binding) (vars : List VarDecl) (types : HaveTypes b.w vars b.vars) (v : ℕ) where
  abbrev sort : Pattern → Result LaneType SortFault
  sort = sorting true Lift (place b.w b.k vars)

  abbrev Sorted : Pattern → Term → Type 0
  Sorted p t = is_formed v p ≡ true → IsWellTyped t → sort p ≡ Ok (stated_type t)

  sorted_each : (n : ℕ) (ps : List Pattern) (ts : List Term) → AllBoth Sorted ps ts → all_true (map (is_formed v) ps) ≡ true → AreTyped ts → types_from n (map sort ps) ≡ Ok (map stated_type ts)
  sorted_each n [] [] h formed typed = refl
  sorted_each n [] (t ∷ ts) h formed typed = absurd h
  sorted_each n (p ∷ ps) [] h formed typed = absurd h
  sorted_each n (p ∷ ps) (t ∷ ts) h formed typed =
      let both = and_parts (is_formed v p) (all_true (map (is_formed v) ps)) formed in
      rw (h.0 both.0 typed.0, sorted_each (n + 1) ps ts h.1 both.1 typed.1) refl

  -- a formed pattern whose instance is well-typed has the instance's type
  instance_sorts : (p : Pattern) (t : Term) → instance_of b p ≡ Some t → Sorted p t
  instance_sorts = instance_goes b.w b.k (slice_get b.vars) Sorted
      (λ n t h formed typed. fold_var (sort_step true Lift (place b.w b.k vars)) n ∙ rw (var_typed b.w b.k vars b.vars n t types h) refl)
      (λ n ty t h formed typed.
      let member : is_in h.ty h.number ≡ true = sym (formed_leaf (Number h.number) h.ty) ∙ (subst IsWellTyped (sym h.is) typed).formed in
      fold_const (sort_step true Lift (place b.w b.k vars)) n ty ∙ rw (h.typed, h.has, member) (ap Ok (sym (ap stated_type (sym h.is) ∙ stated_leaf (Number h.number) h.ty))))
      (λ op to amount args t h each formed typed.
      let ty = op_gives op h.to (map stated_type h.operands) in
      let node = typed_node op ty h.k h.operands (subst IsWellTyped (sym h.is) typed) in
      let all = and_parts (is_formed_op (row_of op) to amount (length (map (is_formed v) args))) (all_true (map (is_formed v) args)) (sym (fold_node (formed_step v) op to amount args) ∙ formed) in
      let own = and_parts (length (map (is_formed v) args) == operand_count (row_of op).operands) _ all.0 in
      let stated = stated_alike (states (row_of op).gives) b.w to h.to h.stated (and_parts (is_stated (states (row_of op).gives) to) _ own.1).0 in
      let below = sorted_each 0 args h.operands each all.1 node.operands in
      let sorted = node_judged op h.to h.k (map stated_type h.operands) (length-map h.operands stated_type ∙ node.count) stated node.node in
      fold_node (sort_step true Lift (place b.w b.k vars)) op to amount args ∙ rw (below, h.stated, h.amount) sorted ∙ ap Ok (sym (ap stated_type (sym h.is) ∙ stated_node op ty h.k h.operands)))

not_true : (b : Bool) → not b ≡ true → b ≡ false
not_true false h = refl
not_true true h = absurd (cc h)

matches_may : (r : RuleParts) (ranges : Ranges) (t : Term) (b : Binding) → is_rule r ≡ true → IsWellTyped t → IsMatch r ranges t b → MayMatch r t
matches_may r ranges t b rule typed h =
    let sides = (and_parts (is_within_limits r) (has_sides r) (and_parts (is_widths r.widths && is_free_shift r.shift) _ rule).1).1 in
    let left = and_parts (is_formed (length r.vars) r.lhs) _ sides in
    let bare = (and_parts (not (is_bare r.lhs)) _ (and_parts (is_formed (length r.vars) r.rhs) _ left.1).1).0 in
    let root = roots_same b.w b.k (slice_get b.vars) r.lhs t h.is (not_true (is_bare r.lhs) bare) in
    record {
      op = root.0;
      left = root.1;
      root = root.2;
      at = at_binding b;
      stated = h.stated;
      typed = instance_sorts b r.vars h.typed (length r.vars) r.lhs t h.is left.0 typed;
    }

pub has_each : (rules : List RuleParts) (t : Term) → HasEachMatch rules t (found (map key_of rules) t)
has_each rules t n r ranges b at rule typed h = (are_candidates rules t).all n r at (matches_may r ranges t b rule typed h)
