use Rattle.std.proofs.Common.{◌≡◌, length, Some, sym, ap, subst, ◌∙◌, IfOk, get_or}
use Rattle.std.specs.Prelude.{slice_get}
use Rattle.std.proofs.lemmas.Option.{get_or_from_slice_get, slice_get-get_or}
use Rattle.pf_machine.specs.declared.memory.Region.{Region}
use Rattle.pf_machine.specs.Meaning.Memory.{nowhere}
use Rattle.pf_machine.specs.Meaning.Runs.{pixels_in_memory}
use Rattle.pf_run.proofs.program.output_image.Goals as goal

pub image_in_memory-requires-clause-count : goal.image_in_memory-requires-clause-count
image_in_memory-requires-clause-count g c =
    let found = get_or_from_slice_get c.args.machine.now.state.regions c.args.n c.in-Some.region.now nowhere (sym c.in-Some.ensures) in
    ap length c.as_slice-bytes.ensures ∙ ap (λ (r : Region). length r.bytes) (sym found) ∙ c.requires.size

pub unreachable-requires : goal.unreachable-requires
unreachable-requires g c =
    let there : slice_get c.args.machine.now.state.regions c.args.n ≡ Some (get_or c.args.machine.now.state.regions c.args.n nowhere) = slice_get-get_or c.args.machine.now.state.regions c.args.n nowhere c.requires.within in
    let none = c.in_default.ensures in
    cc

pub returns-clause-pixels : goal.returns-clause-pixels
returns-clause-pixels g c =
    let found = get_or_from_slice_get c.args.machine.now.state.regions c.args.n c.in-Some.region.now nowhere (sym c.in-Some.ensures) in
    subst (λ bs. IfOk c.image_in_memory.result (λ o. pixels_in_memory c.args.plan.now.out_ty o.pixels ≡ bs)) (c.as_slice-bytes.ensures ∙ ap (λ (r : Region). r.bytes) (sym found)) c.image_in_memory.ensures.pixels
