use Rattle.std.proofs.Common.{rules, ◌≡◌, Option, Some, None}
use Rattle.std.specs.Prelude.{slice_get}
use Rattle.pf_values.specs.declared.term.Term.{Term}
use Rattle.pf_bounds.specs.declared.kept.Bounds.{Bounds}
use Rattle.pf_bounds.proofs.PlaceLaws.{no_mark_alone, no_mark_below, operand_bounded, operand_kept, none_told}
use Rattle.pf_bounds.proofs.kept.operand.Goals as goal

pub returns-in_err-bounds-in-Node-bounds-clause-part : goal.returns-in_err-bounds-in-Node-bounds-clause-part
returns-in_err-bounds-in-Node-bounds-clause-part c =
    let none : ◌≡◌ {A = Option Bounds} None (slice_get c.in-Node-bounds.below c.args.i) = search rules in
    none_told c.from_residual-in_err-bounds-in-Node-bounds.result _ _ (search rules)
    (no_mark_below c.args.term.now c.args.bounds.now c.in-Node.op c.in-Node.ty c.in-Node.k c.in-Node.args c.in-Node-bounds.field-0 c.in-Node-bounds.below c.args.i None c.requires c.in-Node.is c.in-Node-bounds.is none (search rules))

pub returns-in-Leaf-bounds-clause-part : goal.returns-in-Leaf-bounds-clause-part
returns-in-Leaf-bounds-clause-part c =
    no_mark_alone c.args.term.now c.args.bounds.now c.in-Node.op c.in-Node.ty c.in-Node.k c.in-Node.args c.in-Leaf-bounds.field-0 c.args.i c.requires c.in-Node.is c.in-Leaf-bounds.is

pub returns-in_ok-bounds-in-Node-bounds-clause-bounded : goal.returns-in_ok-bounds-in-Node-bounds-clause-bounded
returns-in_ok-bounds-in-Node-bounds-clause-bounded c =
    let term : slice_get c.in-Node.args c.args.i ≡ Some c.in_ok-term-in-Node-bounds.term.now = search rules in
    let marked : slice_get c.in-Node-bounds.below c.args.i ≡ Some c.in_ok-bounds-in-Node-bounds.bounds.now = search rules in
    operand_bounded c.args.term.now c.args.bounds.now c.in-Node.op c.in-Node.ty c.in-Node.k c.in-Node.args c.in-Node-bounds.field-0 c.in-Node-bounds.below c.args.i c.in_ok-term-in-Node-bounds.term.now c.in_ok-bounds-in-Node-bounds.bounds.now c.requires c.in-Node.is c.in-Node-bounds.is term marked

pub returns-in_ok-bounds-in-Node-bounds-clause-kept : goal.returns-in_ok-bounds-in-Node-bounds-clause-kept
returns-in_ok-bounds-in-Node-bounds-clause-kept c ranges kept =
    let term : slice_get c.in-Node.args c.args.i ≡ Some c.in_ok-term-in-Node-bounds.term.now = search rules in
    let marked : slice_get c.in-Node-bounds.below c.args.i ≡ Some c.in_ok-bounds-in-Node-bounds.bounds.now = search rules in
    operand_kept ranges c.args.term.now c.args.bounds.now c.in-Node.op c.in-Node.ty c.in-Node.k c.in-Node.args c.in-Node-bounds.field-0 c.in-Node-bounds.below c.args.i c.in_ok-term-in-Node-bounds.term.now c.in_ok-bounds-in-Node-bounds.bounds.now kept c.in-Node.is c.in-Node-bounds.is term marked
