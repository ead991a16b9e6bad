use Rattle.std.proofs.Common.{◌≡◌, ◌++◌, drop, map, true, All}
use Rattle.pf_values.specs.Meaning.Terms.{is_well_formed}
use Rattle.pf_terms.specs.Meaning.TermTexts.{term_text}
use Rattle.pf_values.specs.Meaning.Spellings.{op_word, spelling_of}
use Rattle.pf_values.specs.Meaning.NamedTerms.{is_named}
use Rattle.pf_terms.specs.Steps.Pieces.{onward}
use Rattle.pf_terms.proofs.print.+write_term.Given as goal

abbrev pub invariant-loop-n : goal.invariant-loop-n
invariant-loop-n l =
    record {
      formed : All (λ t. is_well_formed t ≡ true) l.arg-items;
      named : All (λ t. is_named l.names t ≡ true) l.arg-items;
      whole : l.text.items ++ onward (spelling_of l.op) (op_word l.op) l.k l.n (map (term_text l.names) (drop l.n l.arg-items)) ≡ l.fn.text.items ++ term_text l.names l.fn.term;
    }
