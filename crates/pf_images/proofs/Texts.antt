-- What is written spells the image.
use Rattle.std.proofs.Common.{◌≡◌, ℕ, ◌-◌, ◌^◌, ◌<◌, ◌≤◌, List, [], ◌∷◌, ◌++◌, true, refl, append_assoc, arith, rules, inl, pos, All}
use Rattle.std.specs.Prelude.{codes, decimal}
use Rattle.std.specs.List.{list_all}
use Rattle.std.proofs.lemmas.Fmt.{digits_decimal, digits_value-decimal, decimal_nonempty}
use Rattle.std.proofs.lemmas.Str.Parse.{IsNumeralModel, numerals_by_fold}
use Rattle.std.proofs.lemmas.List.Elements.{All-from_recursion, recursion_from_All}
use Rattle.pf_ints.specs.declared.lane.Bits.{Bits}
use Rattle.pf_ints.specs.declared.lane.Bits.TheVariants.{Eight, Sixteen, ThirtyTwo}
use Rattle.pf_ints.specs.Meaning.Lanes.{lane_width, bit_count, IsIn}
use Rattle.pf_ints.specs.Meaning.Images.{Picture, IsPicture}
use Rattle.pf_text.specs.Meaning.Words.{is_digit}
use Rattle.pf_images.specs.Meaning.Pgm.{is_white, number_from, IsPgmNumber, IsField, IsPgm, samples, greatest_sample, pgm_text}
use Rattle.pf_images.proofs.Images.{weaker, out_type}

own : IsNumeralModel (λ ds. list_all is_digit ds ≡ true) (number_from 0)
own = numerals_by_fold _ (search rules) number_from (search rules)

decimal_is_number : (n : ℕ) → n < 2 ^ 64 → IsPgmNumber (decimal n) n
decimal_is_number n h = (decimal_nonempty n h, digits_decimal own n h, digits_value-decimal own n h)

decimal_is_field : (c n : ℕ) → is_white c ≡ true → n < 2 ^ 64 → IsField (c ∷ decimal n) n
decimal_is_field c n w h = (c ∷ [], decimal n, ((c ∷ []) ∷ [], omega arith, (inl (c, w, refl), tt), refl), decimal_is_number n h, refl)

grouped : (w h m s : List ℕ) → codes "P5\n" ++ w ++ codes " " ++ h ++ codes "\n" ++ m ++ codes "\n" ++ s ≡ ((codes "P5" ++ (10 ∷ w)) ++ (32 ∷ h)) ++ (10 ∷ m) ++ 10 ∷ s
grouped w h m s = simp append_assoc

maxval_fits : (b : Bits) → bit_count b ≤ 16 → (1 ≤ 2 ^ bit_count b - 1) × (2 ^ bit_count b - 1 < 2 ^ bit_count b) × (2 ^ bit_count b - 1 < 2 ^ 64)
maxval_fits Eight h = (omega arith, omega arith, omega arith)
maxval_fits Sixteen h = (omega arith, omega arith, omega arith)
maxval_fits ThirtyTwo h = absurd (omega arith)

-- the written file is a file of the image
pub written_is_pgm : (p : Picture) → IsPicture p → IsPgm (pgm_text p) p.ty p
written_is_pgm p h =
    let m = maxval_fits p.ty.bits h.ty.narrow in
    let w_small : p.width < 2 ^ 64 = omega (arith, h.most_wide) in
    let h_small : p.height < 2 ^ 64 = omega (arith, h.most_high) in
    record {
      head = ((codes "P5" ++ (10 ∷ decimal p.width)) ++ (32 ∷ decimal p.height)) ++ (10 ∷ decimal (greatest_sample p.ty));
      maxval = greatest_sample p.ty;
      white = 10;
      head_is = (_, _, (_, _, (_, _, refl, decimal_is_field 10 p.width refl w_small, refl), decimal_is_field 32 p.height refl h_small, refl), decimal_is_field 10 (greatest_sample p.ty) refl m.2, refl);
      maxval_is = (m.0, m.1);
      white_is = refl;
      picture = h;
      ty_is = refl;
      parts = grouped (decimal p.width) (decimal p.height) (decimal (greatest_sample p.ty)) (samples (greatest_sample p.ty) p.pixels);
    }

-- the pixels of an image stand below the end of its type
pub pixels_below : (p : Picture) → IsPicture p → All (λ n. n < 2 ^ lane_width p.ty) p.pixels
pixels_below p h = All-from_recursion _ _ (weaker (λ n. IsIn p.ty (pos n)) (λ n. n < 2 ^ lane_width p.ty) (λ n i. out_type p.ty n h.ty i) p.pixels (recursion_from_All _ _ h.each))
