use Rattle.std.proofs.Common.{◌≡◌, take, length, map, true, All}
use Rattle.pf_values.specs.Meaning.Operators.{row_of}
use Rattle.pf_values.specs.Meaning.Terms.{Val, IsWellTyped, is_env_of, operand_count}
use Rattle.pf_values.proofs.values.+value.Given as goal

abbrev pub invariant-loop-n : goal.invariant-loop-n
invariant-loop-n l =
    record {
      typed : All (λ t. IsWellTyped t) l.arg-items;
      entries : All (λ t. is_env_of l.env t ≡ true) l.arg-items;
      count : length l.arg-items ≡ operand_count (row_of l.op).operands;
      room : length l.values ≡ 4;
      found : take l.n l.values ≡ map (Val l.env) (take l.n l.arg-items);
    }
