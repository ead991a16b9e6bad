-- What a table tests of its frames, by computing.
use Rattle.std.specs.Prelude.{ℕ, zero, suc, ◌+◌, List, [], ◌∷◌, ◌++◌, Bool, true, false, ◌&&◌, ◌||◌, not, nat_le, ◌==◌, if◌then◌else◌, length, slice_index}
use Rattle.std.specs.List.{list_any}
use Rattle.pf_text.specs.Meaning.Words.{is_digit, is_name_byte}
use Rattle.pf_text.specs.Meaning.Lines.{is_blank}
use Rattle.pf_frames.specs.Meaning.Frames.{is_mark, register_words}

-- a frame without the blanks at its front and behind commas
abbrev pub bare : Bool → List ℕ → List ℕ
bare free [] = []
bare free (c ∷ w) = let kept = c ∷ bare (c == 44) w in let left = bare true w in if is_blank c then (if free then left else kept) else kept

-- it begins with a mark or a byte that is no blank
abbrev pub begins_solid : List ℕ → Bool
begins_solid [] = false
begins_solid (c ∷ w) = not (is_blank c)

-- a blank that counts is a space before a byte that is no blank
abbrev pub is_spaced : Bool → List ℕ → Bool
is_spaced free [] = true
is_spaced free (c ∷ w) = let more = is_spaced (c == 44) w in let left = is_spaced true w in let counts = c == 32 && begins_solid w && more in if is_blank c then (if free then left else counts) else more

-- no mark is followed by a mark, a letter or a digit
abbrev pub begins_plain : List ℕ → Bool
begins_plain [] = true
begins_plain (c ∷ w) = not (is_mark c) && not (is_name_byte c)

abbrev pub is_parted : List ℕ → Bool
is_parted [] = true
is_parted (c ∷ w) = let more = is_parted w in let here = begins_plain w && more in if is_mark c then here else more

-- it has no end of a line and no comment
abbrev pub is_plain : List ℕ → Bool
is_plain [] = true
is_plain (c ∷ w) = not (c == 10) && not (c == 13) && not (c == 47) && is_plain w

-- it is not empty and doesn't end in a colon
abbrev pub ends_well : Bool → List ℕ → Bool
ends_well well [] = well
ends_well well (c ∷ w) = ends_well (not (c == 58)) w

-- a word has no mark, no blank and no comma
abbrev pub is_solid : List ℕ → Bool
is_solid [] = true
is_solid (c ∷ w) = not (is_mark c) && not (is_blank c) && not (c == 44) && is_solid w

-- an operand at this mark may begin with this byte
abbrev pub begins_operand : ℕ → ℕ → Bool
begins_operand zero d = is_digit d
begins_operand (suc mark) d = list_any (λ w. slice_index w 0 == d) (register_words (suc mark))

-- No line is both frames with operands: at the first place where they differ, two bytes differ, or two marks, or a byte stands against a mark none of whose operands begins with it.
abbrev pub are_apart : List ℕ → List ℕ → Bool
are_apart [] [] = false
are_apart [] (d ∷ u) = true
are_apart (c ∷ v) [] = true
are_apart (c ∷ v) (d ∷ u) =
    let more = are_apart v u in
    let left = not (begins_operand c d) in
    let right = not (begins_operand d c) in
    if c == d then more else (if is_mark c then is_mark d || left else (if is_mark d then right else true))

-- no line is the frame with operands and begins with this text
abbrev pub begins_apart : List ℕ → List ℕ → Bool
begins_apart v [] = false
begins_apart [] (d ∷ u) = true
begins_apart (c ∷ v) (d ∷ u) =
    let more = begins_apart v u in
    let left = not (begins_operand c d) in
    if is_mark c then left else (if c == d then more else true)

-- the frames of a table: those of the places below a number at which there is one
abbrev pub frames_below : (ℕ → Bool) → (ℕ → List ℕ) → ℕ → List (List ℕ)
frames_below is f zero = []
frames_below is f (suc n) = let more = frames_below is f n in let here = f n in if is n then here ∷ more else more

abbrev pub is_apart_from : List ℕ → List (List ℕ) → Bool
is_apart_from w [] = true
is_apart_from w (v ∷ vs) = are_apart w v && are_apart v w && is_apart_from w vs

-- each two of the frames are apart
abbrev pub are_all_apart : List (List ℕ) → Bool
are_all_apart [] = true
are_all_apart (w ∷ ws) = is_apart_from w ws && are_all_apart ws

-- the test passes at each place below a number
abbrev pub all_below : (ℕ → Bool) → ℕ → Bool
all_below test zero = true
all_below test (suc n) = test n && all_below test n

-- a frame, cut into a word and what follows, is one of an instruction's line
abbrev pub is_line_frame : List ℕ → List ℕ → Bool
is_line_frame word pattern =
    let whole = word ++ pattern in
    begins_solid whole && is_spaced true whole && is_parted (bare false whole) && is_plain whole && ends_well false (bare false whole)

-- a text in which each blank counts, and stays where something solid follows
abbrev pub is_kept : Bool → List ℕ → Bool
is_kept free [] = true
is_kept free (c ∷ w) = let more = is_kept (c == 44) w in let counts = not free && c == 32 && begins_solid w && more in if is_blank c then counts else more

-- the two texts differ at a place inside both
abbrev pub is_forked : List ℕ → List ℕ → Bool
is_forked [] u = false
is_forked (c ∷ v) [] = false
is_forked (c ∷ v) (d ∷ u) = let more = is_forked v u in if c == d then more else true

-- a jump's front ends before a label; its back begins with no letter, digit or _
abbrev pub is_around : List ℕ → List ℕ → Bool
is_around front back = is_kept true (front ++ 108 ∷ []) && is_kept false back && begins_plain back && is_plain (front ++ back) && ends_well true back && nat_le (length front + length back) 40
