use Rattle.std.proofs.Common.{◌≡◌, ◌++◌, take}
use Rattle.pf_isa.specs.Meaning.Texts.{printed, label_lines}
use Rattle.pf_isa.proofs.write.push_all_labels.Given as goal

abbrev pub invariant-loop-label : goal.invariant-loop-label
invariant-loop-label l = l.text.items ≡ l.fn.text.items ++ printed (label_lines (take l.label-index l.labels))
