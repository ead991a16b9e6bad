use Rattle.std.specs.Prelude.{false, pos}
use Rattle.pf_rules.specs.declared.number.LinOf.TheVariants.{One}
use Rattle.pf_rulefile.proofs.WriteLaws.{lin_written}
use Rattle.pf_rulefile.proofs.write_number.write_lin_parts.Goals as goal

pub loop-part-preserved : goal.loop-part-preserved
loop-part-preserved c =
    lin_written c.args.parts.now c.loop-part.part-index (record { minus = false; times = pos 0; of = One }) c.loop-part.first c.loop-part.text.items c.write_sign.new.text.items c.write_lin.new.text.items _
    c.loop-part-test.true c.in_ok-write_sign.ensures c.in_ok-write_lin.ensures c.loop-part.invariant
