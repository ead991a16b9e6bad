-- The kinds of faults of a rule file, in a word each.
use Rattle.std.specs.Prelude.{ℕ, List, codes}
use Rattle.pf_rulefile.specs.declared.fault.RuleTextKind.{RuleTextKind}
use Rattle.pf_rulefile.specs.declared.fault.RuleTextKind.TheVariants.{Header, Syntax, Name, Unbound, Limit}

abbrev pub fault_word : RuleTextKind → List ℕ
fault_word Header = codes "header"
fault_word Syntax = codes "syntax"
fault_word Name = codes "name"
fault_word Unbound = codes "unbound"
fault_word Limit = codes "limit"
