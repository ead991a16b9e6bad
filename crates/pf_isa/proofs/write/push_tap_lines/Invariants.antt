use Rattle.std.proofs.Common.{◌≡◌, ◌++◌, take, map}
use Rattle.pf_isa.specs.Meaning.Texts.{printed, tap_line}
use Rattle.pf_isa.proofs.write.push_tap_lines.Given as goal

abbrev pub invariant-loop-tap : goal.invariant-loop-tap
invariant-loop-tap l = l.text.items ≡ l.fn.text.items ++ printed (map (tap_line l.images) (take l.tap-index l.taps))
