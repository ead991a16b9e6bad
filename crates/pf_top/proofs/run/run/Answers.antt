use Rattle.std.proofs.Common.{◌≡◌, ◌∙◌, List, ap, length, subst}
use Rattle.pf_values.specs.declared.kernel.ImageDecl.{ImageDecl}
use Rattle.std.proofs.lemmas.Result.{err_from_is_err_and}
use Rattle.pf_run.specs.Meaning.AnyPrograms.{head_of}
use Rattle.pf_top.specs.Meaning.Running.{programs}
use Rattle.pf_top.specs.Steps.CommandSteps.{the_run}
use Rattle.pf_top.proofs.Allowing.{AreTyped, program_allowed}
use Rattle.pf_top.proofs.Running.{text_stopped, images_stopped, output_stopped, ended, unended}
use Rattle.pf_top.proofs.run.run.Goals as goal

pub returns-in_err-program : goal.returns-in_err-program
returns-in_err-program g c =
    let p = err_from_is_err_and c.from_residual.result c.from_residual.ensures.1 in
    rw (p.1, p.2) (text_stopped programs (the_run c.args.words.now) _ _ c.in_err-program.field-0.0 c.in_err-program.ensures.judged)

pub returns-in_err-images : goal.returns-in_err-images
returns-in_err-images g c =
    let decls : c.as_slice-decls.result.now ≡ (head_of c.in_ok-program.program).images = c.as_slice-decls.ensures ∙ ap (λ h. h.images) c.head.ensures.value in
    let p = err_from_is_err_and c.from_residual-in_err-images.result c.from_residual-in_err-images.ensures.1 in
    rw (p.1, p.2) (images_stopped programs (the_run c.args.words.now) c.in_ok-program.program _ _ c.in_ok-program.ensures.judged _ c.as_slice-decls.result.now decls c.in_err-images.field-0.0 c.in_err-images.ensures.read)

pub returns-in_err-text : goal.returns-in_err-text
returns-in_err-text g c =
    let decls : c.as_slice-decls.result.now ≡ (head_of c.in_ok-program.program).images = c.as_slice-decls.ensures ∙ ap (λ h. h.images) c.head.ensures.value in
    let p = err_from_is_err_and c.from_residual-in_err-text.result c.from_residual-in_err-text.ensures.1 in
    rw (p.1, p.2) (output_stopped programs (the_run c.args.words.now) c.in_ok-program.program _ _ c.in_ok-program.ensures.judged _ c.as_slice-decls.result.now decls c.in_ok-images.images c.in_ok-images.ensures.read (program_allowed c.in_ok-program.program (the_run c.args.words.now) c.in_ok-images.images (c.in_ok-images.ensures.read.0 ∙ ap (λ (ds : List ImageDecl). length ds) decls) (subst (λ ds. AreTyped ds c.in_ok-images.images) decls c.in_ok-images.ensures.types)) c.in_err-text.field-0.0 c.in_err-text.ensures)

pub returns-in_err-write_file : goal.returns-in_err-write_file
returns-in_err-write_file g c =
    let decls : c.as_slice-decls.result.now ≡ (head_of c.in_ok-program.program).images = c.as_slice-decls.ensures ∙ ap (λ h. h.images) c.head.ensures.value in
    let p = err_from_is_err_and c.from_residual-in_err-write_file.result c.from_residual-in_err-write_file.ensures.1 in
    rw (p.1, p.2) (unended programs (the_run c.args.words.now) c.in_ok-program.program _ _ c.in_ok-program.ensures.judged _ c.as_slice-decls.result.now decls c.in_ok-images.images c.in_ok-images.ensures.read _ _ c.as_slice.ensures.value c.in_ok-text.ensures _ c.in_err-write_file.field-0.0 c.in_err-write_file.ensures)

pub returns : goal.returns
returns g c =
    let decls : c.as_slice-decls.result.now ≡ (head_of c.in_ok-program.program).images = c.as_slice-decls.ensures ∙ ap (λ h. h.images) c.head.ensures.value in
    rw c.new.ensures (ended programs (the_run c.args.words.now) c.in_ok-program.program _ _ c.in_ok-program.ensures.judged _ c.as_slice-decls.result.now decls c.in_ok-images.images c.in_ok-images.ensures.read _ _ c.as_slice.ensures.value c.in_ok-text.ensures _ _ c.in_ok-write_file.ensures)
