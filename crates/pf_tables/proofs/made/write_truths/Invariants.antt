use Rattle.std.proofs.Common.{◌≡◌, take, length, map, if◌then◌else◌}
use Rattle.pf_tables.proofs.made.write_truths.Given as goal

abbrev pub invariant-loop-n : goal.invariant-loop-n
invariant-loop-n l = record {
  long : length l.out ≡ length l.truths;
  done : take l.n l.out ≡ take l.n (map (λ b. if b then 1 else 0) l.truths);
}
