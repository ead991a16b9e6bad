-- Frames: printed lines in which each operand is a mark. The byte 0 stands for a decimal number; the bytes 1 to 4 stand for a general
-- register of x86-64, which is written as a word without its number: by its 64, 32, 16 or 8 lowest bits.
use Rattle.std.specs.Prelude.{ℕ, zero, suc, ◌^◌, List, [], ◌∷◌, ◌++◌, Bool, true, false, ◌&&◌, nat_lt, if◌then◌else◌, codes, slice_index_or}
use Rattle.std.specs.Fmt.{decimal}

abbrev pub is_mark : ℕ → Bool
is_mark c = nat_lt c 5

-- the words of the registers at a mark: those of the roles 0 to 7, and r11
abbrev pub register_words : ℕ → List (List ℕ)
register_words zero = []
register_words (suc zero) = codes "rdi" ∷ codes "rsi" ∷ codes "rdx" ∷ codes "rcx" ∷ codes "r8" ∷ codes "rax" ∷ codes "r9" ∷ codes "r10" ∷ codes "r11" ∷ []
register_words (suc (suc zero)) = codes "edi" ∷ codes "esi" ∷ codes "edx" ∷ codes "ecx" ∷ codes "r8d" ∷ codes "eax" ∷ codes "r9d" ∷ codes "r10d" ∷ codes "r11d" ∷ []
register_words (suc (suc (suc zero))) = codes "di" ∷ codes "si" ∷ codes "dx" ∷ codes "cx" ∷ codes "r8w" ∷ codes "ax" ∷ codes "r9w" ∷ codes "r10w" ∷ codes "r11w" ∷ []
register_words (suc (suc (suc (suc mark)))) = codes "dil" ∷ codes "sil" ∷ codes "dl" ∷ codes "cl" ∷ codes "r8b" ∷ codes "al" ∷ codes "r9b" ∷ codes "r10b" ∷ codes "r11b" ∷ []

-- the operands that a mark stands for are the numbers below this
abbrev pub limit : ℕ → ℕ
limit zero = 2 ^ 32
limit (suc mark) = 9

-- how an operand is written at a mark
abbrev pub operand : ℕ → ℕ → List ℕ
operand zero n = decimal n
operand (suc mark) n = slice_index_or (register_words (suc mark)) n []

-- a frame with operands in place of its marks: the printed line
abbrev pub filled : List ℕ → List ℕ → List ℕ
filled [] ns = []
filled (c ∷ w) [] = let left = filled w [] in let kept = c ∷ left in if is_mark c then left else kept
filled (c ∷ w) (n ∷ ns) = let put = operand c n ++ filled w ns in let kept = c ∷ filled w (n ∷ ns) in if is_mark c then put else kept

-- the marks of a frame, in order
abbrev pub marks : List ℕ → List ℕ
marks [] = []
marks (c ∷ w) = let left = marks w in let more = c ∷ left in if is_mark c then more else left

-- there is an operand for each mark, such as it stands for
abbrev pub are_operands : List ℕ → List ℕ → Bool
are_operands [] [] = true
are_operands [] (n ∷ ns) = false
are_operands (m ∷ ms) [] = false
are_operands (m ∷ ms) (n ∷ ns) = nat_lt n (limit m) && are_operands ms ns
