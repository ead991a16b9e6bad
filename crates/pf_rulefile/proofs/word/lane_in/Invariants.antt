use Rattle.std.proofs.Common.{◌≡◌, drop}
use Rattle.pf_rulefile.specs.Meaning.Words.{lane_in}
use Rattle.pf_rulefile.proofs.word.lane_in.Given as goal

abbrev pub invariant-loop-op : goal.invariant-loop-op
invariant-loop-op l = lane_in (drop l.op-index l.ops) l.word ≡ lane_in l.ops l.word
