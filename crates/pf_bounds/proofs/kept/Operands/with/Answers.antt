use Rattle.std.proofs.Common.{rules, ◌≡◌, subst}
use Rattle.pf_bounds.specs.declared.kept.OperandParts.{OperandParts}
use Rattle.pf_bounds.specs.declared.kept.BoundedParts.{BoundedParts}
use Rattle.pf_bounds.specs.Meaning.KeptBounds.{Kept, AreKept}
use Rattle.pf_bounds.proofs.KeptLaws.{with_bounded, with_kept}
use Rattle.pf_bounds.proofs.kept.Operands.with.Goals as goal

pub invariant_of-result : goal.invariant_of-result
invariant_of-result c =
    with_bounded c.self.inside.parts.terms c.push.new.self c.self.inside.parts.bounds c.push-2.new.self c.operand.inside.parts.term c.operand.inside.parts.bounds c.self.invariant c.operand.invariant c.in_ok-push.ensures.ok c.in_ok-push-2.ensures.ok

pub returns-clause-kept : goal.returns-clause-kept
returns-clause-kept c ranges h k =
    let same : c.args.self ≡ c.self.inside.parts = search rules in
    let alike : c.args.operand ≡ c.operand.inside.parts = search rules in
    with_kept ranges c.self.inside.parts c.operand.inside.parts c.push.new.self c.push-2.new.self (subst (λ (o : OperandParts). AreKept ranges o) same h) (subst (λ (b : BoundedParts). Kept ranges b) alike k) c.in_ok-push.ensures.ok c.in_ok-push-2.ensures.ok
