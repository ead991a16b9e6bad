use Rattle.std.proofs.Common.{◌≡◌, ◌++◌, drop}
use Rattle.std.specs.List.{flat_map}
use Rattle.pf_rulefile.specs.Meaning.RuleTexts.{width_text}
use Rattle.pf_rulefile.proofs.write.write_widths.Given as goal

abbrev pub invariant-loop-width : goal.invariant-loop-width
invariant-loop-width l = l.text.items ++ flat_map width_text (drop l.width-index l.widths) ≡ l.fn.text.items ++ flat_map width_text l.widths
