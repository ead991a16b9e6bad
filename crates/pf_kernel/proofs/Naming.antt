-- One more name that isn't taken.
use Rattle.std.proofs.Common.{◌≡◌, ◌≢◌, refl, sym, subst, ℕ, zero, suc, ◌≤◌, ◌<◌, ◌||◌, Bool, true, false, List, [], ◌∷◌, ◌++◌, length, map, get_or, arith}
use Rattle.std.specs.Prelude.{All}
use Rattle.std.specs.List.{AllPairs, list_any}
use Rattle.std.specs.Str.{bytes_eq}
use Rattle.std.proofs.lemmas.List.Elements.{All-append, All-push}
use Rattle.std.proofs.lemmas.Slice.Eq.{bytes_eq-Decides}
use Rattle.std.proofs.lemmas.List.Quantifiers.{all_pairs_push}
use Rattle.pf_ints.specs.Meaning.Images.{IsPixelType}
use Rattle.pf_text.specs.Meaning.Words.{is_name}
use Rattle.pf_values.specs.declared.names.Names.{Names}
use Rattle.pf_values.specs.declared.names.Tap.{Tap}
use Rattle.pf_terms.specs.Meaning.KernelNames.{IsNames, IsNearTap, all_names}
use Rattle.pf_terms.specs.Meaning.Meanings.{is_image}
use Rattle.pf_kernel.specs.Meaning.Lines.{is_taken}

or_left : (a b : Bool) → (a || b) ≡ false → a ≡ false
or_left true b h = absurd (cc)
or_left false b h = refl

or_right : (a b : Bool) → (a || b) ≡ false → b ≡ false
or_right true b h = absurd (cc)
or_right false b h = h

same_bytes : (xs ys : List ℕ) → xs ≡ ys → bytes_eq xs ys ≡ true
same_bytes xs ys h = (bytes_eq-Decides xs ys).1 h

others : {X : Type 0} (name_of : X → List ℕ) (n : List ℕ) (xs : List X) → list_any (λ x. bytes_eq (name_of x) n) xs ≡ false → (k : ℕ) (d : List ℕ) → k < length (map name_of xs) → get_or (map name_of xs) k d ≢ n
others name_of n [] h k d below = absurd (omega arith)
others name_of n (x ∷ xs) h zero d below = λ same. absurd (let no : bytes_eq (name_of x) n ≡ false = or_left _ _ h in let yes : bytes_eq (name_of x) n ≡ true = same_bytes (name_of x) n same in cc)
others name_of n (x ∷ xs) h (suc k) d below = others name_of n xs (or_right (bytes_eq (name_of x) n) _ h) k d (omega arith)

-- a name that isn't taken is none of the names
pub is_new : (names : Names) (n : List ℕ) → is_taken names n ≡ false → All (λ s. s ≢ n) (all_names names)
is_new names n h =
    All-append (λ s. s ≢ n) (map (λ i. i.name) names.images) (map (λ d. d.name) names.defs)
    (others (λ i. i.name) n names.images (or_left _ _ h)) (others (λ d. d.name) n names.defs (or_right (is_image names.images n) _ h))

near_more : (n m : ℕ) (taps : List Tap) → n ≤ m → All (IsNearTap n) taps → All (IsNearTap m) taps
near_more n m taps le h k d below =
    let t = h k d below in
    let image : (get_or taps k d).image < n = t.image in
    record { image = omega arith; across = t.across; down = t.down }

-- the names with one more, of an image or a definition
pub named_more : (names more : Names) (n : List ℕ) → IsNames names → is_name n ≡ true → is_taken names n ≡ false → all_names more ≡ all_names names ++ n ∷ [] → more.taps ≡ names.taps → length names.images ≤ length more.images →
    length more.images ≤ 8 → length more.defs ≤ 64 → All (λ i. IsPixelType i.ty) more.images → IsNames more
named_more names more n h named free all taps count few_images few_defs pixels =
    record {
      few_images = few_images;
      few_taps = subst (λ (ts : List Tap). length ts ≤ 64) (sym taps) h.few_taps;
      few_defs = few_defs;
      pixels = pixels;
      named = subst (λ (ns : List (List ℕ)). All (λ s. is_name s ≡ true) ns) (sym all) (All-push (λ s. is_name s ≡ true) (all_names names) n h.named named);
      distinct_names = subst (λ (ns : List (List ℕ)). AllPairs (λ s t. s ≢ t) ns) (sym all) (all_pairs_push (λ s t. s ≢ t) (all_names names) n h.distinct_names (is_new names n free));
      near = subst (λ (ts : List Tap). All (IsNearTap (length more.images)) ts) (sym taps) (near_more (length names.images) (length more.images) names.taps count h.near);
      distinct_taps = subst (λ (ts : List Tap). AllPairs (λ t u. t ≢ u) ts) (sym taps) h.distinct_taps;
    }
