use Rattle.std.proofs.Common.{◌≡◌, ◌++◌, length}
use Rattle.std.specs.List.{slice_split}
use Rattle.pf_isa.specs.Steps.HeadWords.{is_space}
use Rattle.pf_isa.specs.Meaning.TextFaults.{texts}
use Rattle.pf_isa.proofs.words.words_of.Given as goal

abbrev pub invariant-words : goal.invariant-words
invariant-words l = texts l.words.items ++ slice_split is_space l.rest ≡ slice_split is_space l.fn.line

abbrev pub decreases-words : goal.decreases-words
decreases-words l = length l.rest
