-- Labels found by their names.
use Rattle.std.specs.Prelude.{◌≡◌, ℕ, List, [], ◌∷◌, if◌then◌else◌, Option, Some, None}
use Rattle.std.specs.Borrow.{Bor}
use Rattle.std.specs.BTreeMap.{BTreeMap, get_by}
use Rattle.std.specs.Cmp.Lexicographic.{slice_cmp}
use Rattle.std.specs.Ordering.{nat_cmp}
use Rattle.std.specs.Str.{bytes_eq}
use Rattle.pf_machine.specs.declared.code.Label.{Label}
use Rattle.pf_machine.specs.declared.code.Line.{Line}
use Rattle.pf_machine.specs.declared.code.Line.TheVariants.{Vector, Control as Controls}
use Rattle.pf_machine.specs.Meaning.Programs.{jumps_to}

-- the number of instructions before the label of a name, or None where no label has it
abbrev pub labelled : List Label → List ℕ → Option ℕ
labelled [] name = None
labelled (l ∷ ls) name = if bytes_eq l.name name then Some l.before else labelled ls name

-- what a map has at a name
abbrev pub found : BTreeMap (Bor (List ℕ)) ℕ → List ℕ → Option ℕ
found places name = get_by (λ key. slice_cmp nat_cmp name key.now) places

-- a map from the labels' names to the numbers of instructions before them
pub record Finds (places : BTreeMap (Bor (List ℕ)) ℕ) (labels : List Label) : Type 0 where
  pub at_name : (name : List ℕ) → found places name ≡ labelled labels name

-- the label that an instruction may jump to
abbrev pub jump_label : {I O : Type 0} → Line I O → Option (List ℕ)
jump_label (Vector op) = None
jump_label (Controls c) = jumps_to c
