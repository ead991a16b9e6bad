use Rattle.std.proofs.Common.{◌≡◌, ◌++◌, drop, true}
use Rattle.pf_rulefile.specs.Meaning.RuleTexts.{lin_parts_text}
use Rattle.pf_rulefile.proofs.write_number.write_lin_parts.Given as goal

abbrev pub invariant-loop-part : goal.invariant-loop-part
invariant-loop-part l = l.text.items ++ lin_parts_text l.first (drop l.part-index l.parts) ≡ l.fn.text.items ++ lin_parts_text true l.parts
