use Rattle.std.proofs.Common.{◌≡◌, ◌≤ℤ◌, arith, to_z-of_z, map, pos}
use Rattle.std.proofs.lemmas.Int.{ints}
use Rattle.pf_values.specs.Meaning.Kernels.{lowest, highest}
use Rattle.pf_values.specs.Meaning.Reach.{offset_along}
use Rattle.pf_values.proofs.Reaching.{lowest_sign, highest_sign}
use Rattle.pf_values.proofs.reach.extent.Goals as goal

pub returns-clause-value : goal.returns-clause-value
returns-clause-value c = grind (arith, ints, to_z-of_z)

pub returns-clause-most : goal.returns-clause-most
returns-clause-most c =
    let low : lowest (map (offset_along c.args.axis) c.args.taps.now) ≤ℤ pos 0 = lowest_sign (map (offset_along c.args.axis) c.args.taps.now) in
    let high : pos 0 ≤ℤ highest (map (offset_along c.args.axis) c.args.taps.now) = highest_sign (map (offset_along c.args.axis) c.args.taps.now) in
    grind (arith, ints, to_z-of_z)
