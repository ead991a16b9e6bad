use Rattle.std.proofs.Common.{◌≡◌, ◌∙◌, subst, ◌<◌, List, length}
use Rattle.pf_values.specs.declared.kernel.Definition.{Definition}
use Rattle.pf_kernel.proofs.Printing.{defs_printable}
use Rattle.pf_kernel.proofs.WrittenKernels.{written_text, written_read}
use Rattle.pf_kernel.proofs.write.write_kernel.Goals as goal

pub write_defs-requires : goal.write_defs-requires
write_defs-requires c =
    let items : c.as_slice-3.result.now ≡ c.args.kernel.now.source.defs = c.as_slice-3.ensures ∙ c.defs.ensures in
    λ k d less. rw (items, c.names.ensures.value) (defs_printable c.args.kernel.now c.names.ensures.kept k d (subst (λ (ds : List Definition). k < length ds) items less))

pub returns-clause-read_back : goal.returns-clause-read_back
returns-clause-read_back c =
    let k = c.args.kernel.now in
    written_read k _ c.names.ensures.kept
    (written_text k _ _ _ _ _ _ _ _ _ _ _ _ _ _ _ (c.as_slice.ensures.value ∙ c.name.ensures) (c.as_slice-2.ensures ∙ c.images.ensures) (c.as_slice-3.ensures ∙ c.defs.ensures) c.names.ensures.value c.names-2.ensures.value c.out_ty.ensures c.out.ensures
    c.new-text.ensures.items c.in_ok-extend_from_slice.ensures.items c.in_ok-extend_from_slice-2.ensures.items c.in_ok-extend_from_slice-3.ensures.items c.in_ok-write_images.ensures c.in_ok-write_defs.ensures c.in_ok-extend_from_slice-4.ensures.items c.in_ok-write_typed.ensures)
