-- A text has no more instructions than bytes.
use Rattle.std.proofs.Common.{◌≡◌, ℕ, suc, ◌+◌, ◌^◌, ◌<◌, ◌≤◌, List, [], ◌∷◌, length, Bool, true, false, cond, ◌==◌, refl, ap, ◌∙◌, arith, length-append}
use Rattle.std.specs.Prelude.{if◌then◌else◌}
use Rattle.std.specs.List.{slice_split, onto_first, AllZip}
use Rattle.std.specs.Str.Lines.{lines, lines_of_parts}
use Rattle.std.proofs.lemmas.List.Splits.{length-slice_split}
use Rattle.pf_machine.specs.Meaning.Tables.{Table}
use Rattle.pf_machine.specs.Meaning.Programs.{ProgramOf}
use Rattle.pf_isa.specs.Meaning.Texts.{CodeMeaning, Nothing, Named, Does, SaysCode, code_of, IsText}

at_most_one : (b : Bool) (l : List ℕ) → length (if b then [] else l ∷ []) ≤ 1
at_most_one true l = omega arith
at_most_one false l = omega arith

one_part_more : (x n : ℕ) (parts : List (List ℕ)) (b : Bool) → 0 < length parts → length (lines_of_parts parts) ≤ n → length (lines_of_parts (cond b ([] ∷ parts) (onto_first x parts))) ≤ suc n
one_part_more x n [] b some few = absurd (omega arith)
one_part_more x n (y ∷ more) true some few = omega arith
one_part_more x n (y ∷ []) false some few = let one = at_most_one (length (x ∷ y) == 0) (x ∷ y) in omega arith
one_part_more x n (y ∷ m ∷ ms) false some few = omega arith

length-lines : (bs : List ℕ) → length (lines bs) ≤ length bs
length-lines [] = omega arith
length-lines (b ∷ bs) = one_part_more b (length bs) (slice_split (λ c. c == 10) bs) (b == 10) (omega (arith, length-slice_split (λ c. c == 10) bs)) (length-lines bs)

length-all_zip : {X Y : Type 0} (R : X → Y → Type 0) (xs : List X) (ys : List Y) → AllZip R xs ys → length xs ≡ length ys
length-all_zip R [] [] same = refl
length-all_zip R [] (y ∷ ys) same = absurd same
length-all_zip R (x ∷ xs) [] same = absurd same
length-all_zip R (x ∷ xs) (y ∷ ys) same = ap suc (length-all_zip R xs ys same.1)

length-code_of : {I O : Type 0} (said : List (CodeMeaning I O)) → length (code_of said) ≤ length said
length-code_of [] = omega arith
length-code_of (Nothing ∷ more) = let rest = length-code_of more in omega arith
length-code_of (Named name ∷ more) = let rest = length-code_of more in omega arith
length-code_of (Does line ∷ more) = let rest = length-code_of more in omega arith

pub short_code : {I O : Type 0} (t : Table O) (is_op : O → Type 0) (bytes : List ℕ) (p : ProgramOf I O) → IsText t is_op bytes p → length bytes < 2 ^ 31 → length p.code < 2 ^ 31
short_code t is_op bytes p is short =
    let code : length p.code ≡ length (code_of is.said) = ap (λ l. length l) is.code in
    let few = length-code_of is.said in
    let back : length is.back ≡ length is.said = length-all_zip (SaysCode t) is.back is.said is.body in
    let all : length (lines bytes) ≡ length is.front + length is.back = ap (λ (l : List (List ℕ)). length l) is.parts ∙ length-append is.front is.back in
    let lines_few = length-lines bytes in
    omega arith
