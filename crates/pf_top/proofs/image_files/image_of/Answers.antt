use Rattle.std.proofs.Common.{◌≤◌, length, refl, rules}
use Rattle.pf_images.specs.declared.fault.ImageFault.TheVariants.{At, Memory}
use Rattle.pf_images.specs.Meaning.Faults.{IsFault}
use Rattle.pf_images.specs.Meaning.Pgm.{IsPgm}
use Rattle.pf_text.proofs.Answering.{refused_whole}
use Rattle.pf_top.specs.Meaning.Files.{image_limit}
use Rattle.pf_top.proofs.image_files.image_of.Goals as goal

pub returns-in-Ok-clause-found : goal.returns-in-Ok-clause-found
returns-in-Ok-clause-found c =
    let most : length c.args.bytes.now ≤ image_limit = search rules in
    ((most, c.in-Ok.ensures.answers), λ q is. c.in-Ok.ensures.only q is.1)

pub returns-in-Err-At-clause-found : goal.returns-in-Err-At-clause-found
returns-in-Err-At-clause-found c =
    let most : length c.args.bytes.now ≤ image_limit = search rules in
    let refused = rw c.in-Err-At.field-0-is at c.in-Err-At.ensures in
    let both = refused_whole Memory (At c.in-Err-At.at c.in-Err-At.kind) (λ image. IsPgm c.args.bytes.now c.args.ty image) (IsFault c.args.ty c.args.bytes.now) refused (λ e. absurd (cc)) in
    (refl, ((λ q is. both.1 q is.1), (most, both.0)))
