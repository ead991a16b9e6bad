use Rattle.pf_run.proofs.PixelLaws.{picture_is}
use Rattle.pf_run.proofs.output.image_in_memory.Goals as goal

pub new-requires : goal.new-requires
new-requires c =
    let r = c.requires in
    picture_is c.args.width c.args.height c.args.ty c.in_ok-pixels.pixels c.args.bytes.now r.ty r.wide r.high r.most_wide r.most_high r.most c.in_ok-pixels.ensures.bytes r.count c.in_ok-pixels.ensures.small
