use Rattle.std.proofs.Common.{◌≡◌, drop}
use Rattle.pf_rulefile.specs.Meaning.Words.{op_in}
use Rattle.pf_rulefile.proofs.word.op_in.Given as goal

abbrev pub invariant-loop-op : goal.invariant-loop-op
invariant-loop-op l = op_in (drop l.op-index l.ops) l.word ≡ op_in l.ops l.word
