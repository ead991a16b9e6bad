use Rattle.std.proofs.Common.{◌≡◌, refl, sym, ap, ◌∙◌, subst, true, None, Some, arith}
use Rattle.std.specs.Prelude.{slice_get, Option}
use Rattle.pf_bounds.specs.Meaning.TermBounds.{part_of}
use Rattle.pf_rules.specs.declared.instances.Binding.{Binding}
use Rattle.pf_rules.specs.declared.rule.RuleParts.{RuleParts}
use Rattle.pf_rules.specs.Meaning.Instances.{instance_of}
use Rattle.pf_rules.specs.Meaning.Rules.{is_rule}
use Rattle.pf_match.specs.Meaning.Matches.{Match}
use Rattle.pf_lift.proofs.Trying.{none_more, none_all, found_instance, found_rewritten}
use Rattle.pf_lift.proofs.lifting.Lifting.rewritten.Goals as goal

pub instance-requires : goal.instance-requires
instance-requires c =
    let rules = c.args.self.now.rules.now in
    let ranges = c.args.self.now.ranges.now in
    let t = c.args.whole.now.term in
    let checked = c.in-Some.checked.now in
    let root : part_of t c.new-root.result ≡ Some t = ap (part_of t) c.new-root.ensures in
    let m : Match c.rule.result.now ranges t c.in_ok-found.found = c.in_ok-found.ensures ranges t c.requires.kept root in
    let found : Match checked.rule ranges t (Some c.in-Some-found.binding) = subst (λ (r : RuleParts). Match r ranges t (Some c.in-Some-found.binding)) c.rule.ensures.value (subst (Match c.rule.result.now ranges t) c.in-Some-found.is m) in
    let same : c.parts-parts.result.now ≡ checked.rule = c.parts-parts.ensures.value ∙ c.rule-in-Some-found.ensures.value in
    let rule : is_rule c.parts-parts.result.now ≡ true = ap is_rule c.parts-parts.ensures.value ∙ c.parts-parts.ensures.kept in
    found_instance rules ranges t c.requires.kind c.requires.typed c.loop-n.n checked (sym c.in-Some.ensures) c.rule.ensures.kept c.parts-parts.result.now same rule c.in-Some-found.binding found

pub returns-in-Some-found : goal.returns-in-Some-found
returns-in-Some-found c =
    let rules = c.args.self.now.rules.now in
    let ranges = c.args.self.now.ranges.now in
    let t = c.args.whole.now.term in
    let checked = c.in-Some.checked.now in
    let root : part_of t c.new-root.result ≡ Some t = ap (part_of t) c.new-root.ensures in
    let m : Match c.rule.result.now ranges t c.in_ok-found.found = c.in_ok-found.ensures ranges t c.requires.kept root in
    let found : Match checked.rule ranges t (Some c.in-Some-found.binding) = subst (λ (r : RuleParts). Match r ranges t (Some c.in-Some-found.binding)) c.rule.ensures.value (subst (Match c.rule.result.now ranges t) c.in-Some-found.is m) in
    let same : c.parts-parts.result.now ≡ checked.rule = c.parts-parts.ensures.value ∙ c.rule-in-Some-found.ensures.value in
    let rule : is_rule checked.rule ≡ true = ap is_rule (sym same ∙ c.parts-parts.ensures.value) ∙ c.parts-parts.ensures.kept in
    let is : instance_of c.in-Some-found.binding checked.rule.rhs ≡ Some c.in_ok-next.next = ap (λ (r : RuleParts). instance_of c.in-Some-found.binding r.rhs) (sym same) ∙ c.in_ok-next.ensures.is in
    found_rewritten rules ranges t c.requires.kind c.requires.typed c.requires.entries c.loop-n.n checked c.loop-n.invariant (sym c.in-Some.ensures) c.rule.ensures.kept rule c.in-Some-found.binding found c.in_ok-next.next is

pub loop-n-preserved : goal.loop-n-preserved
loop-n-preserved c =
    let rules = c.args.self.now.rules.now in
    let ranges = c.args.self.now.ranges.now in
    let t = c.args.whole.now.term in
    let checked = c.in-Some.checked.now in
    let root : part_of t c.new-root.result ≡ Some t = ap (part_of t) c.new-root.ensures in
    let m : Match c.rule.result.now ranges t c.in_ok-found.found = c.in_ok-found.ensures ranges t c.requires.kept root in
    let none : c.in_ok-found.found ≡ None = by c.in_ok-found.found c.in_default-found.not-Some in
    none_more rules ranges t c.loop-n.n checked c.loop-n.invariant (sym c.in-Some.ensures) (subst (λ (r : RuleParts). Match r ranges t None) c.rule.ensures.value (subst (Match c.rule.result.now ranges t) none m))
  where
    by : (o : Option Binding) → ((b : Binding) → o ≡ Some b → ⊥) → o ≡ None
    by None h = refl
    by (Some b) h = absurd (h b refl)

pub returns : goal.returns
returns c = none_all c.args.self.now.rules.now c.args.self.now.ranges.now c.args.whole.now.term c.loop-n.n (omega (arith, c.loop-n-test.false, c.len-n-end.ensures)) c.loop-n.invariant
