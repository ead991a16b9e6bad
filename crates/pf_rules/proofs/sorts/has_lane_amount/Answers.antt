use Rattle.std.proofs.Common.{arith, sym, ◌∙◌, ◌≡◌, false, to_z, of_z}
use Rattle.std.specs.Int.{w128}
use Rattle.std.specs.Prelude.{◌≤ℤ◌, ◌<ℤ◌, pos}
use Rattle.std.specs.Int.Signed.{lt_z}
use Rattle.std.proofs.lemmas.Int.{ints}
use Rattle.pf_rules.specs.Meaning.Sorts.{has_lane_amount}
use Rattle.pf_rules.proofs.AmountLaws.{far_amount, below_amount}
use Rattle.pf_rules.proofs.sorts.has_lane_amount.Goals as goal
use Rattle.pf_rules.proofs.sorts.has_lane_amount.Goals.{then-k-ge0, else-k-ge0}

pub returns-else-k-lt64 : goal.returns-else-k-lt64
returns-else-k-lt64 c =
    elim c.if-k-ge0.branch [
      | then-k-ge0 w ↦
          let past : lt_z (to_z w128 (of_z w128 c.args.k)) (pos 64) ≡ false = sym w.value-is ∙ c.if-k-lt64.false in
          let large : pos 64 ≤ℤ c.args.k = omega (arith, ints, past) in
          c.if-k-lt64.false ∙ sym (far_amount c.args.kind c.args.op c.args.to c.args.types.now c.args.k large)
      | else-k-ge0 w ↦
          let low : c.args.k <ℤ pos 0 = omega (arith, ints, w.if-k-ge0.false) in
          c.if-k-lt64.false ∙ sym (below_amount (has_lane_amount c.args.kind c.args.op c.args.to c.args.types.now) c.args.k low)
    ]
