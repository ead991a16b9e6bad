use Rattle.std.proofs.Common.{◌≡◌, rules, to_z, of_z, to_z-of_z, ap, ◌∙◌}
use Rattle.std.specs.Prelude.{unsigned_abs}
use Rattle.std.specs.Int.{w16, w64}
use Rattle.pf_values.specs.declared.reach.Axis.TheVariants.{Columns, Rows}
use Rattle.pf_values.specs.Meaning.Reach.{extent}
use Rattle.pf_run.proofs.ReadyLaws.{reach_is}
use Rattle.pf_run.proofs.reach.reach_of.Goals as goal

pub returns : goal.returns
returns c =
    let left : to_z w16 (of_z w16 c.least_offset-left.result) ≡ c.least_offset-left.result = search (rules, to_z-of_z) in
    let up : to_z w16 (of_z w16 c.least_offset-up.result) ≡ c.least_offset-up.result = search (rules, to_z-of_z) in
    let across : to_z w64 (of_z w64 c.extent-columns.result) ≡ c.extent-columns.result = search (rules, to_z-of_z) in
    let down : to_z w64 (of_z w64 c.extent-rows.result) ≡ c.extent-rows.result = search (rules, to_z-of_z) in
    let size = c.size_of-width.ensures in
    reach_is c.args.taps.now c.args.planes.now _ c.requires.limits c.requires.wide c.requires.high (left ∙ c.least_offset-left.ensures) (up ∙ c.least_offset-up.ensures)
    (ap unsigned_abs (across ∙ c.extent-columns.ensures.value) ∙ ap (λ n. unsigned_abs (extent Columns c.args.taps.now n)) size.width)
    (ap unsigned_abs (down ∙ c.extent-rows.ensures.value) ∙ ap (λ n. unsigned_abs (extent Rows c.args.taps.now n)) size.height)
