-- A node's text in pieces: what stands before its operands, between them and behind them.
use Rattle.std.specs.Prelude.{ℕ, ◌+◌, List, [], ◌∷◌, ◌++◌, codes, decimal, ◌==◌, if◌then◌else◌}
use Rattle.pf_ints.specs.declared.lane.LaneType.{LaneType}
use Rattle.pf_values.specs.declared.row.Spelling.{Spelling}
use Rattle.pf_values.specs.declared.row.Spelling.TheVariants.{TypeCall, Infix, ShiftBy, Call, CallWithType, CallWithAmount, Select}
use Rattle.pf_terms.specs.Meaning.TermTexts.{type_word}

abbrev pub opening : Spelling → List ℕ → LaneType → List ℕ
opening TypeCall word ty = type_word ty ++ codes "("
opening Infix word ty = codes "("
opening ShiftBy word ty = codes "("
opening Call word ty = word ++ codes "("
opening CallWithType word ty = word ++ codes "(" ++ type_word ty ++ codes ", "
opening CallWithAmount word ty = word ++ codes "("
opening Select word ty = codes "select("

abbrev pub spaced : List ℕ → List ℕ
spaced word = codes " " ++ word ++ codes " "

-- what stands before operand n, n from 1 on
abbrev pub separator : Spelling → List ℕ → ℕ → List ℕ
separator TypeCall word n = codes ", "
separator Infix word n = spaced word
separator ShiftBy word n = spaced word
separator Call word n = codes ", "
separator CallWithType word n = codes ", "
separator CallWithAmount word n = codes ", "
separator Select word n = if n == 1 then spaced word else codes ", "

abbrev pub closing : Spelling → List ℕ → ℕ → List ℕ
closing TypeCall word k = codes ")"
closing Infix word k = codes ")"
closing ShiftBy word k = spaced word ++ decimal k ++ codes ")"
closing Call word k = codes ")"
closing CallWithType word k = codes ")"
closing CallWithAmount word k = codes ", " ++ decimal k ++ codes ")"
closing Select word k = codes ")"

-- what stands before operand n
abbrev pub before : Spelling → List ℕ → ℕ → List ℕ
before spelling word n = if n == 0 then [] else separator spelling word n

-- the text from operand n on
abbrev pub onward : Spelling → List ℕ → ℕ → ℕ → List (List ℕ) → List ℕ
onward spelling word k n [] = closing spelling word k
onward spelling word k n (x ∷ xs) = before spelling word n ++ x ++ onward spelling word k (n + 1) xs
