use Rattle.std.proofs.Common.{List, ◌++◌, ◌-◌, ◌≤◌, drop, length}
use Rattle.pf_terms.specs.declared.token.Token.{Token}
use Rattle.pf_terms.specs.Meaning.Tokens.{IsLexed}
use Rattle.pf_terms.proofs.lexer.tokens.Given as goal

abbrev pub invariant-loop-at : goal.invariant-loop-at
invariant-loop-at l =
    record {
      within : l.at ≤ length l.text;
      onward : (ts : List Token) → IsLexed l.at (drop l.at l.text) ts → IsLexed 0 l.text (l.found.items ++ ts);
    }

abbrev pub decreases-loop-at : goal.decreases-loop-at
decreases-loop-at l = length l.text - l.at
