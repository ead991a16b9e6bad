use Rattle.std.proofs.Common.{sym}
use Rattle.pf_ints.specs.declared.target.Target.TheVariants.{Neon, Avx2, Hvx}
use Rattle.pf_rules.proofs.RowFacts.{row_gives}
use Rattle.pf_rules.proofs.forms.lane_gives.Goals as goal

pub returns-in-Some : goal.returns-in-Some
returns-in-Some c = sym (row_gives Neon c.args.op c.args.to c.args.types.now c.args.k (c.in-Some.ty, c.in-Some.field-0-1) (sym c.in-Some.ensures))

pub returns-in-Some-lane_type : goal.returns-in-Some-lane_type
returns-in-Some-lane_type c =
    sym (row_gives Avx2 c.args.op c.args.to c.args.types.now c.args.k (c.in-Some-lane_type.ty, c.in-Some-lane_type.field-0-1) (sym c.in-Some-lane_type.ensures))

pub returns-in-Some-lane_type-2 : goal.returns-in-Some-lane_type-2
returns-in-Some-lane_type-2 c =
    sym (row_gives Hvx c.args.op c.args.to c.args.types.now c.args.k (c.in-Some-lane_type-2.ty, c.in-Some-lane_type-2.field-0-1) (sym c.in-Some-lane_type-2.ensures))
