use Rattle.std.proofs.Common.{◌≡◌, take, length, map, nat_lt}
use Rattle.pf_tables.proofs.made.set_truths.Given as goal

abbrev pub invariant-loop-n : goal.invariant-loop-n
invariant-loop-n l = record {
  long : length l.truths ≡ length l.bytes;
  done : take l.n l.truths ≡ take l.n (map (λ b. nat_lt 0 b) l.bytes);
}
