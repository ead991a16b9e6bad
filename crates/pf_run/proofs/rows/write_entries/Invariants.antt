use Rattle.std.proofs.Common.{◌≡◌, map, take}
use Rattle.pf_machine.specs.Meaning.Runs.{tap_address}
use Rattle.pf_run.proofs.rows.write_entries.Given as goal

abbrev pub invariant-taps : goal.invariant-taps
invariant-taps l = l.entries.items ≡ map (tap_address l.plan.taps l.planes l.plan.starts.images.items l.y) (take l.tap-index l.plan.taps)
