use Rattle.std.proofs.Common.{length}
use Rattle.pf_machine_tests.proofs.machine.+is_memory.Given as goal

abbrev pub decreases-is_memory : goal.decreases-is_memory
decreases-is_memory l = length l.regions.now
