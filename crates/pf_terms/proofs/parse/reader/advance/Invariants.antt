use Rattle.std.proofs.Common.{◌≡◌, length}
use Rattle.pf_terms.specs.Steps.Parsing.{parser_step, taker, built}
use Rattle.pf_terms.proofs.parse.reader.advance.Given as goal

abbrev pub invariant-loop-symbol : goal.invariant-loop-symbol
invariant-loop-symbol l =
    record {
      onward : parser_step l.symbols l.kind ≡ parser_step l.fn.symbols l.kind;
      by : taker l.symbols l.kind ≡ taker l.fn.symbols l.kind;
      made : built l.symbols l.kind l.build ≡ built l.fn.symbols l.kind l.fn.build;
    }

abbrev pub decreases-loop-symbol : goal.decreases-loop-symbol
decreases-loop-symbol l = length l.symbols
