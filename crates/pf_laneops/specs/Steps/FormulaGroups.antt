-- Which function of the code has a formula.
use Rattle.pf_values.specs.declared.op.Op.{Op}
use Rattle.pf_values.specs.declared.op.Op.TheVariants as op
use Rattle.pf_laneops.specs.declared.lane_name.LaneName.{LaneName}
use Rattle.pf_laneops.specs.declared.lane_name.LaneName.TheVariants as lane

pub data Group : Type 0 where
  Changes : Group
  Choices : Group
  Means : Group
  Products : Group
  Widths : Group
  Shared : Group

abbrev pub op_group : Op → Group
op_group op.Min = Choices
op_group op.Max = Choices
op_group op.SelectGreater = Choices
op_group op.SelectEqual = Choices
op_group op.WideningAdd = Choices
op_group op.WideningSub = Choices
op_group op.WideningMul = Choices
op_group op.ExtendingAdd = Choices
op_group op.HalvingAdd = Means
op_group op.RoundingHalvingAdd = Means
op_group op.HalvingSub = Means
op_group op.SaturatingAdd = Means
op_group op.SaturatingSub = Means
op_group op.Absd = Means
op_group op.MulShr = Means
op_group op.RoundingMulShr = Means
op_group _ = Changes

-- Shared are those that have the formula of an operator
abbrev pub lane_group : LaneName → Group
lane_group lane.Mla = Products
lane_group lane.Not = Products
lane_group lane.MulHigh = Products
lane_group lane.MulQ = Products
lane_group lane.MulQr = Products
lane_group lane.MulHrs = Products
lane_group lane.Bits = Widths
lane_group lane.Widen = Widths
lane_group lane.WidenShl = Widths
lane_group lane.MulUs = Products
lane_group lane.WideningMla = Products
lane_group lane.WideningAbsd = Products
lane_group lane.Narrow = Widths
lane_group lane.SatNarrow = Widths
lane_group lane.NarrowShr = Widths
lane_group lane.NarrowRshr = Widths
lane_group lane.SatNarrowShr = Widths
lane_group lane.SatNarrowRshr = Widths
lane_group _ = Shared
