-- A line that is printed as words with spaces between them is read by its words.
use Rattle.std.proofs.Common.{◌≡◌, refl, sym, ap, ◌∙◌, subst, ℕ, ◌≤◌, ◌<◌, ◌^◌, List, [], ◌∷◌, ◌++◌, length, Bool, true, false, arith, All, ℤ, pos, negsuc, suc}
use Rattle.std.specs.Prelude.{decimal, IsTrue}
use Rattle.std.specs.Fmt.{signed_decimal, digits}
use Rattle.std.specs.List.{join_with_byte, slice_split}
use Rattle.std.proofs.lemmas.List.{append-nil}
use Rattle.std.proofs.lemmas.List.Splits.{join_with_byte-slice_split, slice_split_at, slice_split_none}
use Rattle.std.proofs.lemmas.List.Elements.{All-nil, All-cons}
use Rattle.std.proofs.lemmas.Bool.Decides.{nat_tests}
use Rattle.std.proofs.lemmas.Int.{ints}
use Rattle.std.proofs.lemmas.Fmt.{decimal_nonempty}
use Rattle.pf_ints.specs.declared.lane.LaneType.{LaneType}
use Rattle.pf_ints.specs.declared.lane.Bits.{Bits}
use Rattle.pf_ints.specs.declared.lane.Bits.TheVariants.{Eight, Sixteen, ThirtyTwo}
use Rattle.pf_text.specs.Meaning.Words.{is_name}
use Rattle.pf_terms.specs.Meaning.TermTexts.{type_word}
use Rattle.pf_text.specs.Meaning.Lines.{is_blank, tight, tight_on, tight_pending, IsLine}
use Rattle.pf_isa.specs.Steps.HeadWords.{is_space, words_in, IsOffset}
use Rattle.pf_isa.proofs.TextLaws.{name_bytes}
use Rattle.pf_text.proofs.TightLaws.{IsSolid, solid_name, solid_digits, front_kept}
use Rattle.pf_text.proofs.ScanLaws.{digits-decimal}
use Rattle.pf_isa.proofs.HeadWordLaws.{name_size}

-- a word has no blank and no comma, and it is not empty
pub record IsWord (w : List ℕ) : Type 0 where
  pub solid : IsSolid w
  pub some : 1 ≤ length w

abbrev pub AreWords : List (List ℕ) → Type 0
AreWords [] = ⊥
AreWords (w ∷ []) = IsWord w
AreWords (w ∷ v ∷ ws) = IsWord w × AreWords (v ∷ ws)

abbrev pub spaced_line : List (List ℕ) → List ℕ
spaced_line ws = join_with_byte 32 ws

pending_word : (w t : List ℕ) → IsWord w → tight_pending (w ++ t) ≡ 32 ∷ tight_on true (w ++ t)
pending_word [] t is = absurd (let some = is.some in omega arith)
pending_word (c ∷ cs) t is = let blank : is_blank c ≡ false = is.solid.0 in rw blank refl

pending_words : (ws : List (List ℕ)) → AreWords ws → tight_pending (spaced_line ws) ≡ 32 ∷ tight_on true (spaced_line ws)
pending_words [] is = absurd is
pending_words (w ∷ []) is = subst (λ t. tight_pending t ≡ 32 ∷ tight_on true t) (append-nil w) (pending_word w [] is)
pending_words (w ∷ v ∷ ws) is = pending_word w (32 ∷ spaced_line (v ∷ ws)) is.0

tight_words : (ws : List (List ℕ)) → AreWords ws → tight_on true (spaced_line ws) ≡ spaced_line ws
tight_words [] is = absurd is
tight_words (w ∷ []) is = subst (λ t. tight_on true t ≡ t) (append-nil w) (front_kept true w [] is.solid is.some)
tight_words (w ∷ v ∷ ws) is =
    front_kept true w (32 ∷ spaced_line (v ∷ ws)) is.0.solid is.0.some ∙ ap (λ t. w ++ t) (pending_words (v ∷ ws) is.1 ∙ ap (λ t. 32 ∷ t) (tight_words (v ∷ ws) is.1))

no_blank_space : (c : ℕ) → is_blank c ≡ false → is_space c ≡ false
no_blank_space c h = grind (arith, nat_tests)

no_space : (w : List ℕ) → IsSolid w → All (λ c. is_space c ≡ false) w
no_space [] s = All-nil (λ c. is_space c ≡ false)
no_space (c ∷ cs) s = All-cons (λ b. is_space b ≡ false) c cs (no_blank_space c s.0) (no_space cs s.2)

split_words : (ws : List (List ℕ)) → AreWords ws → slice_split is_space (spaced_line ws) ≡ ws
split_words [] is = absurd is
split_words (w ∷ []) is = slice_split_none is_space w (no_space w is.solid)
split_words (w ∷ v ∷ ws) is = slice_split_at is_space w 32 (spaced_line (v ∷ ws)) (no_space w is.0.solid) refl ∙ ap (λ l. w ∷ l) (split_words (v ∷ ws) is.1)

pub words_of_line : (line printed : List ℕ) (ws : List (List ℕ)) → printed ≡ spaced_line ws → AreWords ws → IsLine line printed → words_in line ≡ ws
unfolding tight
words_of_line line printed ws is words same = ap (slice_split is_space) (same ∙ ap (tight_on true) is ∙ tight_words ws words) ∙ split_words ws words

pub line_of_words : (line printed : List ℕ) (ws : List (List ℕ)) → printed ≡ spaced_line ws → AreWords ws → words_in line ≡ ws → IsLine line printed
unfolding tight
line_of_words line printed ws is words same =
    sym (join_with_byte-slice_split 32 (tight_on true line)) ∙ ap spaced_line same ∙ sym (tight_words ws words) ∙ sym (ap (tight_on true) is)

-- ---- the words of a head's lines
pub key_word : (w : List ℕ) → IsSolid w → 1 ≤ length w → IsWord w
key_word w s some = record { solid = s; some = some }

pub name_word : (name : List ℕ) → IsTrue (is_name name) → IsWord name
name_word name h = record { solid = solid_name name (name_bytes name h); some = (name_size name h).0 }

type_is_word : (signed : Bool) (bits : Bits) → IsWord (type_word (record { signed = signed; bits = bits }))
unfolding digits
type_is_word true Eight = record { solid = (refl, refl, (refl, refl, tt)); some = omega arith }
type_is_word true Sixteen = record { solid = (refl, refl, (refl, refl, (refl, refl, tt))); some = omega arith }
type_is_word true ThirtyTwo = record { solid = (refl, refl, (refl, refl, (refl, refl, tt))); some = omega arith }
type_is_word false Eight = record { solid = (refl, refl, (refl, refl, tt)); some = omega arith }
type_is_word false Sixteen = record { solid = (refl, refl, (refl, refl, (refl, refl, tt))); some = omega arith }
type_is_word false ThirtyTwo = record { solid = (refl, refl, (refl, refl, (refl, refl, tt))); some = omega arith }

pub type_word_is : (t : LaneType) → IsWord (type_word t)
type_word_is t = type_is_word t.signed t.bits

pub number_word : (n : ℕ) → n < 2 ^ 64 → IsWord (decimal n)
number_word n fits = record { solid = solid_digits (decimal n) (digits-decimal n fits); some = decimal_nonempty n fits }

small_offset : (n : ℕ) → IsOffset (pos n) → n < 2 ^ 64
small_offset n h = let few : n ≤ 64 = omega (arith, ints, h.1) in omega arith

small_minus : (n : ℕ) → IsOffset (negsuc n) → suc n < 2 ^ 64
small_minus n h = let few : suc n ≤ 64 = omega (arith, ints, h.0) in omega arith

pub offset_word : (z : ℤ) → IsOffset z → IsWord (signed_decimal z)
offset_word (pos n) h = number_word n (small_offset n h)
offset_word (negsuc n) h = let is = number_word (suc n) (small_minus n h) in record { solid = (refl, refl, is.solid); some = omega arith }
