use Rattle.std.proofs.Common.{◌++◌, [], ◌∷◌, map, List, ℕ, append_assoc, ap, ◌∙◌, ◌≡◌}
use Rattle.pf_machine.specs.Meaning.Heads.{image_name, names_of_taps}
use Rattle.pf_isa.specs.Meaning.Texts.{printed, target_line, image_line, tap_line, out_line, scratch_line, lifted_lines, cost_line}
use Rattle.pf_isa.proofs.TextLaws.{joined_lines}
use Rattle.pf_isa.proofs.write.push_head.Goals as goal

pub returns : goal.returns
returns c =
    let h = c.args.head.now in
    let inputs = rw (c.as_slice.ensures, c.in_ok-names.ensures) at c.in_ok-push_inputs.ensures in
    let lifted = rw (c.as_slice-2.ensures, c.in_ok-names.ensures) at c.in_ok-push_lifted_lines.ensures in
    let cost_on : List (List ℕ) = cost_line h.cost ∷ [] in
    let lifted_on : List (List ℕ) = lifted_lines (names_of_taps h.images h.taps) h.lifted ++ cost_on in
    let output : List (List ℕ) = out_line h.out_ty ∷ scratch_line h.scratch ∷ [] in
    let taps = map (tap_line (map image_name h.images)) h.taps in
    let images = map image_line h.images in
    let inputs_on : List (List ℕ) = target_line c.args.target ∷ (images ++ taps) in
    let lines : inputs_on ++ (output ++ lifted_on) ≡ target_line c.args.target ∷ (images ++ (taps ++ (output ++ lifted_on))) =
    ap (λ l. target_line c.args.target ∷ l) (append_assoc images taps (output ++ lifted_on)) in
    joined_lines _ _ _ inputs_on (output ++ lifted_on) inputs
    (joined_lines _ _ _ output lifted_on c.in_ok-push_output.ensures
    (joined_lines _ _ _ (lifted_lines (names_of_taps h.images h.taps) h.lifted) cost_on lifted c.in_ok-push_cost_line.ensures))
    ∙ ap (λ ls. c.args.text.now.items ++ printed ls) lines
