use Rattle.std.proofs.Common.{arith, rules, ◌<◌}
use Rattle.std.specs.Prelude.{unsigned_abs}
use Rattle.std.proofs.lemmas.Int.{ints, to_z-of_z}
use Rattle.pf_ints.proofs.RangeLaws.{is_range_at, least_at, is_range_quotient, least_quotient, div_euclid_is}
use Rattle.pf_ints.proofs.interval.Interval.floor_div.Goals as goal

pub invariant_of-result : goal.invariant_of-result
invariant_of-result c =
    let some : 0 < unsigned_abs c.args.d = omega (arith, ints) in
    is_range_at _ _ (is_range_quotient _ (unsigned_abs c.args.d) some c.self.invariant) (search (rules, to_z-of_z, div_euclid_is)) (search (rules, to_z-of_z, div_euclid_is))

pub returns-clause-least : goal.returns-clause-least
returns-clause-least c =
    let some : 0 < unsigned_abs c.args.d = omega (arith, ints) in
    rw (← c.self.view_is)
    (least_at _ _ _ (least_quotient _ (unsigned_abs c.args.d) some c.self.invariant) (search (rules, to_z-of_z, div_euclid_is)) (search (rules, to_z-of_z, div_euclid_is)))
