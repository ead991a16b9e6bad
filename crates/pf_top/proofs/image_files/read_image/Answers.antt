use Rattle.std.proofs.Common.{◌+◌, ap, subst}
use Rattle.pf_outside.specs.Meaning.Formats.{Means, IsRefused}
use Rattle.pf_outside.proofs.StoreCalls.{judged_found}
use Rattle.pf_top.specs.Meaning.Files.{image_file, image_limit}
use Rattle.pf_top.specs.Steps.RunSteps.{JudgesAs}
use Rattle.pf_top.proofs.image_files.read_image.Goals as goal

pub returns-clause-judged : goal.returns-clause-judged
returns-clause-judged g c =
    judged_found (Means (image_file c.args.ty)) (IsRefused (image_file c.args.ty)) c.args.number c.args.name.now (image_limit + 1) (c.image_limit.result + 1) _ _ c.in_ok-bytes.bytes.items c.image_of.result
    (ap (λ k. k + 1) c.image_limit.ensures.value) c.in_ok-bytes.ensures.went (subst (λ bytes. JudgesAs (image_file c.args.ty) c.args.number c.image_of.result bytes) c.as_slice.ensures.value c.image_of.ensures.found)
