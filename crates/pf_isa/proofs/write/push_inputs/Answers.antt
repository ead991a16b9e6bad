use Rattle.std.proofs.Common.{◌++◌, [], ◌∷◌, map, List, ℕ}
use Rattle.pf_isa.specs.Meaning.Texts.{target_line, image_line, tap_line}
use Rattle.pf_isa.proofs.TextLaws.{joined_lines}
use Rattle.pf_isa.proofs.write.push_inputs.Goals as goal

pub returns : goal.returns
returns c =
    let h = c.args.head.now in
    let images = rw c.as_slice.ensures at c.in_ok-push_image_lines.ensures in
    let taps = rw c.as_slice-2.ensures at c.in_ok-push_tap_lines.ensures in
    let taps_on : List (List ℕ) = map (tap_line c.args.names.now) h.taps in
    joined_lines _ _ _ (target_line c.args.target ∷ []) (map image_line h.images ++ taps_on) c.in_ok-push_target_line.ensures
    (joined_lines _ _ _ (map image_line h.images) taps_on images taps)
