-- Terms that can be printed.
use Rattle.std.specs.Prelude.{◌≡◌, true}
use Rattle.pf_values.specs.declared.names.Names.{Names}
use Rattle.pf_values.specs.declared.term.Term.{Term}
use Rattle.pf_values.specs.Meaning.Terms.{is_well_formed}
use Rattle.pf_values.specs.Meaning.NamedTerms.{is_named}

-- a well-formed term whose leaves have these names
pub record IsPrintable (names : Names) (t : Term) : Type 0 where
  pub formed : is_well_formed t ≡ true
  pub named : is_named names t ≡ true
