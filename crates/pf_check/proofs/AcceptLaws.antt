-- A rule is accepted exactly where it has no fault, and then it holds.
use Rattle.std.proofs.Common.{◌≡◌, refl, sym, ap, ◌∙◌, subst, ℕ, zero, suc, ◌+◌, ◌<◌, ◌≤◌, ℤ, pos, Bool, true, false, cond, Some, None, List, [], ◌∷◌, length, map, arith, Ok, Err}
use Rattle.std.specs.Prelude.{Option, Result, slice_get, Contains, nat_lt, option_map}
use Rattle.std.proofs.lemmas.Bool.Decides.{nat_tests}
use Rattle.pf_ints.specs.declared.lane.LaneType.{LaneType}
use Rattle.pf_ints.specs.Meaning.Ranges.{Range}
use Rattle.pf_values.proofs.Typing.{and_left}
use Rattle.pf_forms.specs.Meaning.Shapes.{Wrap, Num}
use Rattle.pf_forms.specs.Meaning.Equality.{same_type}
use Rattle.pf_forms.specs.Meaning.Values.{IsFormOver}
use Rattle.pf_forms.proofs.EqualityLaws.{same_itself}
use Rattle.pf_rules.specs.declared.fault.SortFault.{SortFault}
use Rattle.pf_rules.specs.declared.fault.SortFault.TheVariants as sort
use Rattle.pf_rules.specs.declared.rule.By.{By}
use Rattle.pf_rules.specs.declared.rule.By.TheVariants as by
use Rattle.pf_rules.specs.declared.rule.Kind.{Kind}
use Rattle.pf_rules.specs.declared.rule.Kind.TheVariants.{Lift, Lower}
use Rattle.pf_rules.specs.declared.rule.RuleParts.{RuleParts}
use Rattle.pf_rules.specs.declared.rule.Step.{Step}
use Rattle.pf_rules.specs.declared.rule.VarDecl.{VarDecl}
use Rattle.pf_rules.specs.declared.shifts.Pair.{Pair}
use Rattle.pf_rules.specs.Meaning.Sides.{form_at, PVal}
use Rattle.pf_rules.specs.Meaning.Sorts.{sorting}
use Rattle.pf_rules.specs.Meaning.Rules.{suits, pairs, first_bad, range_at, AreInside, Holds}
use Rattle.pf_rules.proofs.SideLaws.{sided_of}
use Rattle.pf_check.specs.declared.checked.CheckedParts.{CheckedParts}
use Rattle.pf_check.specs.declared.fault.RuleFault.{RuleFault}
use Rattle.pf_check.specs.declared.fault.RuleFault.TheVariants as told
use Rattle.pf_check.specs.Meaning.Orders.{this_or, first_some, onward, fault_in}
use Rattle.pf_check.specs.Meaning.Faults.{Fault, IsFaultOver, Tells}
use Rattle.pf_check.specs.Meaning.Faults as fault
use Rattle.pf_check.specs.Meaning.Checks.{HasOneType, HasRanges, LiftsLighter, IsSound, IsChecked, at_pair, weighed, occurs, side_fault, two_types, types_fault, ranged, with_range, ranges_from, ranges_fault, heavier_fault, repeats_fault, repeats_from, lifting_fault, shift_fault}
use Rattle.pf_check.specs.Meaning.Replays.{replay_of}
use Rattle.pf_check.specs.Meaning.Accepts.{Accepted, AreCitable, IsCertified, IsCitable, setting, first_fault, cites_fault, is_checked, is_citable, replay_fault, over}
use Rattle.pf_check.specs.Steps.Pairs.{AllChecked, IfOver, IsOver, from_types, from_ranges, from_weights, from_amounts, from_cites, from_replays}
use Rattle.pf_check.proofs.JudgeLaws.{first_over, none_each, shift_none, lifts}
use Rattle.pf_check.proofs.PairLaws.{are_ranges, first_none, has_one_type, has_range, ranges_are, ranges_only, sides_hold}
use Rattle.pf_check.proofs.TakingLaws.{made, onward_over, proves_is, proves_only, proves_over, proves_value}

both_none : (o p : Option Fault) → o ≡ None → p ≡ None → this_or o p ≡ None
both_none None p d e = e
both_none (Some x) p d e = absurd (cc)

all_none : (f : Pair → Option Fault) (ps : List Pair) → ((p : Pair) → Contains ps p → f p ≡ None) → first_some (map f ps) ≡ None
all_none f [] h = refl
all_none f (p ∷ ps) h = both_none (f p) (first_some (map f ps)) (h p (0, omega arith, refl)) (all_none f ps (λ q at. h q (suc at.0, (let k = at.1 in omega (arith, k)), at.2)))

-- ---- no fault of what is so

types_none : (amounts : Bool) (kind : Kind) (r : RuleParts) (p : Pair) → HasOneType amounts kind r p → types_fault amounts kind r p ≡ None
types_none amounts kind r p h =
    let alike : same_type h.ty h.ty ≡ true = and_left _ _ (same_itself (Wrap h.ty (Num (pos 0)))) in
    ap (λ a. two_types a (sorting amounts kind (at_pair r p) r.rhs)) h.left ∙ ap (two_types (Ok h.ty)) h.right ∙ ap (λ b. cond b None (Some (fault.Types false []))) alike

ranges_none : (p : Pair) (n : ℕ) (ds : List VarDecl) → ((m : ℕ) (d : VarDecl) → slice_get ds m ≡ Some d → (s : Range) × (range_at p.w p.k d ≡ Some s)) → fault_in (ranges_from p n ds) ≡ None
ranges_none p n [] h = refl
ranges_none p n (d ∷ ds) h =
    ap (λ o. fault_in (ranged p n o (ranges_from p (n + 1) ds))) (h 0 d refl).1
    ∙ behind (h 0 d refl).0 (ranges_from p (n + 1) ds) (ranges_none p (n + 1) ds (λ m c e. h (suc m) c e))
  where
    behind : (s : Range) (o : Result (List Range) Fault) → fault_in o ≡ None → fault_in (with_range s o) ≡ None
    behind s (Ok rs) e = refl
    behind s (Err x) e = absurd (cc)

module _ (r : RuleParts) where
  heavier_none : (b : Bool) (e : Fault) → weighed r.rhs < weighed r.lhs → nat_lt (weighed r.rhs) (weighed r.lhs) ≡ b → cond b None (Some e) ≡ None
  heavier_none true e h d = refl
  heavier_none false e h d = absurd (grind (arith, nat_tests))

  repeat_none : (n : ℕ) (b : Bool) → occurs n r.rhs ≤ occurs n r.lhs → nat_lt (occurs n r.lhs) (occurs n r.rhs) ≡ b → cond b (Some (fault.Repeats n)) None ≡ None
  repeat_none n true h d = absurd (grind (arith, nat_tests))
  repeat_none n false h d = refl

  repeats_none : (n : ℕ) (ds : List VarDecl) → ((m : ℕ) → m < n + length ds → occurs m r.rhs ≤ occurs m r.lhs) → repeats_from r n ds ≡ None
  repeats_none n [] h = refl
  repeats_none n (d ∷ ds) h =
      both_none (repeats_fault r n) (repeats_from r (n + 1) ds) (repeat_none n (nat_lt (occurs n r.lhs) (occurs n r.rhs)) (h n (omega arith)) refl)
      (repeats_none (n + 1) ds (λ m k. h m (omega (arith, k))))

  lifting_none : (kind : Kind) → LiftsLighter kind r → lifting_fault kind r ≡ None
  lifting_none (Lower target) h = refl
  lifting_none Lift h =
      both_none (heavier_fault r) (repeats_from r 0 r.vars) (heavier_none (nat_lt (weighed r.rhs) (weighed r.lhs)) (fault.Heavier (weighed r.lhs) (weighed r.rhs)) h.lighter refl)
      (repeats_none 0 r.vars (λ m k. h.no_more m (omega (arith, k))))

-- ---- forms that are told

over_or : (count : ℕ) (o p : Option Fault) → IfOver count o → (o ≡ None → IfOver count p) → IfOver count (this_or o p)
over_or count (Some x) p h k = h
over_or count None p h k = k refl

over_each : (count : ℕ) (f : Pair → Option Fault) (ps : List Pair) → ((p : Pair) → Contains ps p → IfOver count (f p)) → IfOver count (first_some (map f ps))
over_each count f [] h = tt
over_each count f (p ∷ ps) h = over_or count (f p) (first_some (map f ps)) (h p (0, omega arith, refl)) (λ e. over_each count f ps (λ q at. h q (suc at.0, (let k = at.1 in omega (arith, k)), at.2)))

shift_over : (count : ℕ) (o : Option ℕ) → IfOver count (option_map (λ w. fault.Range None w 0) o)
shift_over count None = tt
shift_over count (Some w) = tt

side_over : (count : ℕ) (left : Bool) (e : SortFault) → IsOver count (side_fault left e)
side_over count left (sort.Types path) = tt
side_over count left (sort.Amount path amount) = tt
side_over count left sort.Memory = tt

types_over : (count : ℕ) (a b : Result LaneType SortFault) → IfOver count (two_types a b)
types_over count (Err e) b = side_over count true e
types_over count (Ok t) (Err e) = side_over count false e
types_over count (Ok t) (Ok u) = by_test (same_type t u)
  where
    by_test : (b : Bool) → IfOver count (cond b None (Some (fault.Types false [])))
    by_test true = tt
    by_test false = tt

ranges_over : (count : ℕ) (p : Pair) (n : ℕ) (ds : List VarDecl) → IfOver count (fault_in (ranges_from p n ds))
ranges_over count p n [] = tt
ranges_over count p n (d ∷ ds) = by_range (range_at p.w p.k d) (ranges_from p (n + 1) ds) (ranges_over count p (n + 1) ds)
  where
    by_range : (o : Option Range) (q : Result (List Range) Fault) → IfOver count (fault_in q) → IfOver count (fault_in (ranged p n o q))
    by_range None q h = tt
    by_range (Some s) (Ok rs) h = tt
    by_range (Some s) (Err e) h = h

repeats_over : (count : ℕ) (r : RuleParts) (n : ℕ) (ds : List VarDecl) → IfOver count (repeats_from r n ds)
repeats_over count r n [] = tt
repeats_over count r n (d ∷ ds) = over_or count (repeats_fault r n) (repeats_from r (n + 1) ds) (by_test (nat_lt (occurs n r.lhs) (occurs n r.rhs))) (λ e. repeats_over count r (n + 1) ds)
  where
    by_test : (b : Bool) → IfOver count (cond b (Some (fault.Repeats n)) None)
    by_test true = tt
    by_test false = tt

lifting_over : (count : ℕ) (r : RuleParts) (kind : Kind) → IfOver count (lifting_fault kind r)
lifting_over count r (Lower target) = tt
lifting_over count r Lift = over_or count (heavier_fault r) (repeats_from r 0 r.vars) (by_test (nat_lt (weighed r.rhs) (weighed r.lhs))) (λ e. repeats_over count r 0 r.vars)
  where
    by_test : (b : Bool) → IfOver count (cond b None (Some (fault.Heavier (weighed r.lhs) (weighed r.rhs))))
    by_test true = tt
    by_test false = tt

-- ---- cited rules

module _ (earlier : List (Option CheckedParts)) where
  citable_by : (n : ℕ) (o : Option (Option CheckedParts)) → slice_get earlier n ≡ o → is_checked o ≡ true → IsCitable earlier (by.Rule n)
  citable_by n (Some (Some c)) d e = (c, d)
  citable_by n (Some None) d e = absurd (cc)
  citable_by n None d e = absurd (cc)

  citable_is : (b : By) → is_citable earlier b ≡ true → IsCitable earlier b
  citable_is (by.Axiom law) e = tt
  citable_is (by.Rule n) e = citable_by n (slice_get earlier n) refl e

  citable_only : (b : By) → IsCitable earlier b → is_citable earlier b ≡ true
  citable_only (by.Axiom law) h = refl
  citable_only (by.Rule n) h = ap is_checked h.1

  all_citable : (n : ℕ) (ts : List Step) → cites_fault earlier n ts ≡ None → AreCitable earlier ts
  all_citable n [] e = tt
  all_citable n (t ∷ ts) e = by_test (λ d. all_citable (n + 1) ts d) (is_citable earlier t.by) refl e
    where
      by_test : (cites_fault earlier (n + 1) ts ≡ None → AreCitable earlier ts) → (b : Bool) → is_citable earlier t.by ≡ b → cond b (cites_fault earlier (n + 1) ts) (Some (fault.Cites n)) ≡ None → AreCitable earlier (t ∷ ts)
      by_test later true d u = (citable_is t.by d, later u)
      by_test later false d u = absurd (cc)

  cites_none : (n : ℕ) (ts : List Step) → AreCitable earlier ts → cites_fault earlier n ts ≡ None
  cites_none n [] h = refl
  cites_none n (t ∷ ts) h = ap (λ b. cond b (cites_fault earlier (n + 1) ts) (Some (fault.Cites n))) (citable_only t.by h.0) ∙ cites_none (n + 1) ts h.1

  cites_over : (count n : ℕ) (ts : List Step) → IfOver count (cites_fault earlier n ts)
  cites_over count n [] = tt
  cites_over count n (t ∷ ts) = by_test (is_citable earlier t.by) (cites_over count (n + 1) ts)
    where
      by_test : (b : Bool) → IfOver count (cites_fault earlier (n + 1) ts) → IfOver count (cond b (cites_fault earlier (n + 1) ts) (Some (fault.Cites n)))
      by_test true later = later
      by_test false later = tt

-- ---- the certificate at a width and a shift at which both sides have a type

module _ (r : RuleParts) (kind : Kind) (earlier : List (Option CheckedParts)) (known : AllChecked earlier) (p : Pair) (typed : HasOneType true kind r p) where
  module _ (rs : List Range) (alike : length rs ≡ length r.vars) where
    left_form : IsFormOver (length rs) (form_at (at_pair r p) r.lhs)
    left_form = subst (λ n. IsFormOver n (form_at (at_pair r p) r.lhs)) (sym alike) (sided_of (at_pair r p) r.lhs (record { kind = kind; ty = typed.ty; sorted = typed.left })).formed

    right_form : IsFormOver (length rs) (form_at (at_pair r p) r.rhs)
    right_form = subst (λ n. IsFormOver n (form_at (at_pair r p) r.rhs)) (sym alike) (sided_of (at_pair r p) r.rhs (record { kind = kind; ty = typed.ty; sorted = typed.right })).formed

  abbrev proof_of : List Range → Option Fault
  proof_of rs = replay_of (setting earlier p rs) r.steps (form_at (at_pair r p) r.lhs) (form_at (at_pair r p) r.rhs)

  certified_is : replay_fault r earlier p ≡ None → IsCertified r earlier p
  certified_is e =
      let m = made (ranges_from p 0 r.vars) proof_of e in
      let alike = (are_ranges p 0 r.vars m.0 m.1).alike in
      record {
        ranges = m.0;
        are_ranges = ranges_are p 0 r.vars m.0 m.1;
        proved = proves_is (setting earlier p m.0) known r.steps (form_at (at_pair r p) r.lhs) (form_at (at_pair r p) r.rhs) (left_form m.0 alike) (right_form m.0 alike) m.2;
      }

  module _ (c : IsCertified r earlier p) where
    made_ranges : ranges_from p 0 r.vars ≡ Ok c.ranges
    made_ranges = ranges_only p 0 r.vars c.ranges c.are_ranges

    alike_ranges : length c.ranges ≡ length r.vars
    alike_ranges = (are_ranges p 0 r.vars c.ranges made_ranges).alike

    certified_only : replay_fault r earlier p ≡ None
    certified_only =
        ap (λ o. onward o proof_of) made_ranges
        ∙ proves_only (setting earlier p c.ranges) known r.steps (form_at (at_pair r p) r.lhs) (form_at (at_pair r p) r.rhs) (left_form c.ranges alike_ranges) (right_form c.ranges alike_ranges) c.proved

    certified_holds : (v : ℕ → ℤ) → AreInside (at_pair r p) v → PVal (at_pair r p) v r.lhs ≡ PVal (at_pair r p) v r.rhs
    certified_holds =
        sides_hold kind r p c.ranges (form_at (at_pair r p) r.lhs) (form_at (at_pair r p) r.rhs) typed made_ranges refl refl
        (λ v inside. proves_value (setting earlier p c.ranges) known r.steps (form_at (at_pair r p) r.lhs) (form_at (at_pair r p) r.rhs) (left_form c.ranges alike_ranges) (right_form c.ranges alike_ranges) c.proved v inside)

  certified_over : IfOver (length r.vars) (replay_fault r earlier p)
  certified_over =
      onward_over (length r.vars) (ranges_from p 0 r.vars) proof_of (ranges_over (length r.vars) p 0 r.vars)
      (λ rs e. (let alike = (are_ranges p 0 r.vars rs e).alike in
      subst (λ n. IfOver n (proof_of rs)) alike
      (proves_over (setting earlier p rs) known r.steps (form_at (at_pair r p) r.lhs) (form_at (at_pair r p) r.rhs) (left_form rs alike) (right_form rs alike))))

-- ---- the rule

module _ (r : RuleParts) (kind : Kind) (earlier : List (Option CheckedParts)) (known : AllChecked earlier) where
  pub accepted_is : first_fault r kind earlier ≡ None → Accepted r kind earlier
  accepted_is h =
      let shifts = shift_none (first_bad r.widths r.shift) (first_none (shift_fault r) _ h).0 in
      let a = first_none (first_some (map (types_fault false kind r) (pairs r))) (from_ranges r kind earlier (pairs r)) (sym (first_over r kind earlier shifts) ∙ h) in
      let b = first_none (first_some (map (ranges_fault r) (pairs r))) (from_weights r kind earlier (pairs r)) a.1 in
      let c = first_none (lifting_fault kind r) (from_amounts r kind earlier (pairs r)) b.1 in
      let d = first_none (first_some (map (types_fault true kind r) (pairs r))) (from_cites r earlier (pairs r)) c.1 in
      let e = first_none (cites_fault earlier 1 r.steps) (from_replays r earlier (pairs r)) d.1 in
      let typed : (p : Pair) → Contains (pairs r) p → HasOneType true kind r p = λ p at. has_one_type true kind r p (none_each (types_fault true kind r) (pairs r) d.0 p at) in
      record {
        sound = record {
          shifts = shifts;
          types = λ p at. has_one_type false kind r p (none_each (types_fault false kind r) (pairs r) a.0 p at);
          ranges = λ p at. ranged_at p (none_each (ranges_fault r) (pairs r) b.0 p at);
          lighter = lifts r kind c.0;
          amounts = typed;
        };
        citable = all_citable earlier 1 r.steps e.0;
        certified = λ p at. certified_is r kind earlier known p (typed p at) (none_each (replay_fault r earlier) (pairs r) e.1 p at);
      }
    where
      ranged_at : (p : Pair) → ranges_fault r p ≡ None → HasRanges r p
      ranged_at p e = by_ranges (ranges_from p 0 r.vars) refl e
        where
          by_ranges : (o : Result (List Range) Fault) → ranges_from p 0 r.vars ≡ o → fault_in o ≡ None → HasRanges r p
          by_ranges (Ok rs) d u = has_range p r.vars rs (ranges_are p 0 r.vars rs d)
          by_ranges (Err x) d u = absurd (cc)

  pub accepted_only : Accepted r kind earlier → first_fault r kind earlier ≡ None
  accepted_only h =
      both_none _ _ (ap (option_map (λ w. fault.Range None w 0)) h.sound.shifts)
      (both_none _ _ (all_none (types_fault false kind r) (pairs r) (λ p at. types_none false kind r p (h.sound.types p at)))
      (both_none _ _ (all_none (ranges_fault r) (pairs r) (λ p at. ranges_none p 0 r.vars (h.sound.ranges p at)))
      (both_none _ _ (lifting_none r kind h.sound.lighter)
      (both_none _ _ (all_none (types_fault true kind r) (pairs r) (λ p at. types_none true kind r p (h.sound.amounts p at)))
      (both_none _ _ (cites_none earlier 1 r.steps h.citable)
      (both_none _ _ (all_none (replay_fault r earlier) (pairs r) (λ p at. certified_only r kind earlier known p (h.sound.amounts p at) (h.certified p at))) refl))))))

  pub accepted_holds : Accepted r kind earlier → Holds r
  accepted_holds h p at v inside = certified_holds r kind earlier known p (h.sound.amounts p at) (h.certified p at) v inside

  pub accepted_checked : suits kind r ≡ true → first_fault r kind earlier ≡ None → IsChecked (record { rule = r; kind = kind })
  accepted_checked suited e = let h = accepted_is e in record { suited = suited; sound = h.sound; holds = accepted_holds h }

  sides_over : (count : ℕ) (amounts : Bool) (p : Pair) → IfOver count (types_fault amounts kind r p)
  sides_over count amounts p = types_over count (sorting amounts kind (at_pair r p) r.lhs) (sorting amounts kind (at_pair r p) r.rhs)

  pub fault_over : IfOver (length r.vars) (first_fault r kind earlier)
  fault_over =
      let n = length r.vars in
      over_or n _ _ (shift_over n (first_bad r.widths r.shift))
      (λ a. over_or n _ _ (over_each n (types_fault false kind r) (pairs r) (λ p at. sides_over n false p))
      (λ b. over_or n _ _ (over_each n (ranges_fault r) (pairs r) (λ p at. ranges_over n p 0 r.vars))
      (λ c. over_or n _ _ (lifting_over n r kind)
      (λ d. over_or n _ _ (over_each n (types_fault true kind r) (pairs r) (λ p at. sides_over n true p))
      (λ e. over_or n _ _ (cites_over earlier n 1 r.steps)
      (λ f. over_or n _ _ (over_each n (replay_fault r earlier) (pairs r) (λ p at. certified_over r kind earlier known p (has_one_type true kind r p (none_each (types_fault true kind r) (pairs r) e p at))))
      (λ g. tt)))))))

pub told_over : (count : ℕ) (e : RuleFault) (o : Option Fault) → Tells e o → IfOver count o → IsFaultOver count e
told_over count (told.Apart w k f g) o h i = subst (IfOver count) h i
told_over count _ o h i = tt
