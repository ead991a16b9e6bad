use Rattle.std.proofs.Common.{◌≡◌, ◌+◌, ◌*◌, ◌^◌, ◌≤◌, drop}
use Rattle.pf_terms.specs.Meaning.Tokens.{digits_behind}
use Rattle.pf_terms.proofs.lexer.digits_value.Given as goal

abbrev pub invariant-loop-digit : goal.invariant-loop-digit
invariant-loop-digit l =
    record {
      small : l.n + 23 ≤ 23 * 10 ^ l.digit-index;
      onward : digits_behind l.n (drop l.digit-index l.digits) ≡ digits_behind 0 l.digits;
    }
