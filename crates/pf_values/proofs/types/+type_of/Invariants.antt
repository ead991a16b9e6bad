use Rattle.std.proofs.Common.{◌≡◌, drop, length, map, true, All}
use Rattle.pf_values.specs.Meaning.Operators.{row_of}
use Rattle.pf_values.specs.Meaning.Terms.{typing, types_from, is_well_formed, operand_count}
use Rattle.pf_values.proofs.Typing.{behind}
use Rattle.pf_values.proofs.types.+type_of.Given as goal

abbrev pub invariant-loop-arg : goal.invariant-loop-arg
invariant-loop-arg l =
    record {
      formed : All (λ t. is_well_formed t ≡ true) l.arg-items;
      operands : length l.arg-items ≡ operand_count (row_of l.op).operands;
      count : length l.types.items ≡ l.arg-index;
      onward : behind l.types.items (types_from l.arg-index (map typing (drop l.arg-index l.arg-items))) ≡ types_from 0 (map typing l.arg-items);
    }
