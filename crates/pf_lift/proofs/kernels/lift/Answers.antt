use Rattle.std.proofs.Common.{◌≡◌, sym, ap, ◌∙◌, subst, [], true, length}
use Rattle.pf_values.specs.declared.kernel.Definition.{Definition}
use Rattle.pf_values.specs.declared.kernel.ImageDecl.{ImageDecl}
use Rattle.pf_values.specs.declared.names.Names.{Names}
use Rattle.pf_values.specs.declared.names.Tap.{Tap}
use Rattle.pf_values.specs.declared.term.Term.{Term}
use Rattle.pf_values.specs.Meaning.NamedTerms.{is_named}
use Rattle.pf_bounds.specs.Meaning.TermBounds.{are_ranges_of}
use Rattle.pf_kernel.specs.Meaning.Kernels.{names_behind}
use Rattle.pf_lift.proofs.KernelTerms.{defined_each, all_ranged_in}
use Rattle.pf_lift.proofs.kernels.lift.Goals as goal

pub ranges-requires-clause-defs : goal.ranges-requires-clause-defs
ranges-requires-clause-defs g c =
    let k = c.args.kernel.now in
    let h = c.names.ensures.kept in
    let images = c.images.ensures in
    let taps = ap (λ (n : Names). n.taps) c.names.ensures.value in
    let defs = c.defs.ensures in
    rw (images, taps, defs) (defined_each (names_behind k.source.images k.source.taps []) k.source.defs h.defs)

pub lift_all-requires-clause-ranged : goal.lift_all-requires-clause-ranged
lift_all-requires-clause-ranged g c =
    let k = c.args.kernel.now in
    let images = c.images.ensures in
    let taps = ap (λ (n : Names). n.taps) c.names.ensures.value in
    let defs = c.defs.ensures in
    let entries : (t : Term) → is_named (names_behind k.source.images k.source.taps k.source.defs) t ≡ true → are_ranges_of c.in_ok-found.found t ≡ true = λ t h.
    c.in_ok-found.ensures.entries t (rw (images, taps, defs) h) in
    all_ranged_in k c.names.ensures.kept c.in_ok-found.found entries c.as_slice.result.now (c.as_slice.ensures ∙ c.in_ok-all.ensures)
