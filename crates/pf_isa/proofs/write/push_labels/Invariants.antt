use Rattle.std.proofs.Common.{◌≡◌, ◌++◌, drop}
use Rattle.pf_isa.specs.Meaning.Texts.{printed, label_lines, labels_at, labels_behind}
use Rattle.pf_isa.proofs.write.push_labels.Given as goal

abbrev pub invariant-loop-k : goal.invariant-loop-k
invariant-loop-k l =
    record {
      text : l.text.items ++ printed (label_lines (labels_at l.n (drop l.k l.labels))) ≡ l.fn.text.items ++ printed (label_lines (labels_at l.n l.labels));
      rest : labels_behind l.n (drop l.k l.labels) ≡ labels_behind l.n l.labels;
    }
