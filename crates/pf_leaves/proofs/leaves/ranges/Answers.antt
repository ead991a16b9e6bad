use Rattle.std.proofs.Common.{◌≡◌, ◌∙◌, ap, map}
use Rattle.pf_values.specs.declared.kernel.ImageDecl.{ImageDecl}
use Rattle.pf_leaves.specs.Meaning.Leaves.{tap_range}
use Rattle.pf_leaves.proofs.LeafLaws.{may_follow, all_ranged}
use Rattle.pf_leaves.proofs.PixelLaws.{all_kept}
use Rattle.pf_leaves.proofs.leaves.ranges.Goals as goal

pub with_defs-requires : goal.with_defs-requires
with_defs-requires c =
    let images = c.args.images.now in
    let taps = c.args.taps.now in
    let is : c.in_ok-tap_ranges.field-0 ≡ map (tap_range images) taps = c.in_ok-tap_ranges.ensures ∙ ap (λ is. map (tap_range is) c.as_slice-2.result.now) c.as_slice.ensures ∙ ap (map (tap_range images)) c.as_slice-2.ensures in
    may_follow images taps c.args.defs.now c.as_slice-3.result.now c.in_ok-tap_ranges.field-0 c.new.result c.requires.images is c.new.ensures c.requires.defs c.as_slice-3.ensures

pub returns-clause-entries : goal.returns-clause-entries
returns-clause-entries c =
    let images = c.args.images.now in
    let taps = c.args.taps.now in
    let is : c.in_ok-tap_ranges.field-0 ≡ map (tap_range images) taps = c.in_ok-tap_ranges.ensures ∙ ap (λ is. map (tap_range is) c.as_slice-2.result.now) c.as_slice.ensures ∙ ap (map (tap_range images)) c.as_slice-2.ensures in
    all_ranged _ c.with_defs.result images taps c.args.defs.now c.as_slice-3.result.now c.in_ok-tap_ranges.field-0 c.new.result c.requires.images is c.new.ensures c.requires.defs c.as_slice-3.ensures c.with_defs.ensures.entries

pub returns-clause-keeps : goal.returns-clause-keeps
returns-clause-keeps c =
    let images = c.args.images.now in
    let taps = c.args.taps.now in
    let is : c.in_ok-tap_ranges.field-0 ≡ map (tap_range images) taps = c.in_ok-tap_ranges.ensures ∙ ap (λ is. map (tap_range is) c.as_slice-2.result.now) c.as_slice.ensures ∙ ap (map (tap_range images)) c.as_slice-2.ensures in
    all_kept _ c.with_defs.result images taps c.args.defs.now c.as_slice-3.result.now c.in_ok-tap_ranges.field-0 c.new.result c.requires.taps is c.new.ensures c.as_slice-3.ensures c.with_defs.ensures.taps c.with_defs.ensures.within
