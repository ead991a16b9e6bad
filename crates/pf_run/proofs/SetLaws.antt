-- What the faults of a set of images say of the images.
use Rattle.std.proofs.Common.{◌≡◌, ◌≢◌, ℕ, ◌+◌, ◌-◌, ◌*◌, ◌/◌, ◌%◌, ◌<◌, ◌≤◌, List, [], ◌∷◌, length, take, drop, get_or, All, Option, Some, None, MatchOption, inr, ⊎_elim, sym, ap, subst, ◌∙◌, arith}
use Rattle.std.specs.Prelude.{pos, zip, ◌≤ℤ◌}
use Rattle.std.proofs.lemmas.Nat.{div_below, column_fits}
use Rattle.std.proofs.lemmas.List.{take_all}
use Rattle.std.proofs.lemmas.List.Elements.{All-nil, All-cons, All-head, All-tail, All-get_or, All-more, All-weaker}
use Rattle.pf_ints.specs.Meaning.Images.{Picture, IsPicture}
use Rattle.pf_values.specs.declared.kernel.ImageDecl.{ImageDecl}
use Rattle.pf_values.specs.declared.names.Tap.{Tap}
use Rattle.pf_values.specs.Meaning.Kernels.{KeepsRange, KeepsSet, width_of, height_of, out_width, out_height}
use Rattle.pf_run.specs.declared.fault.SetFault.{SetFault}
use Rattle.pf_run.specs.declared.fault.SetFault.TheVariants.{Count, Kind, Size, Pixel, NoOutput}
use Rattle.pf_run.specs.Meaning.Sets.{AllSuit, HasOutput, IsFirstBadImage, IsFirstOutside, IsImageFault, IsInRange, IsSetFault, Suits}

-- the column and the row of a pixel that is out of the range
pub outside_at : (d : ImageDecl) (p : Picture) (k : ℕ) → IsPicture p → k < length p.pixels → (IsInRange d (get_or p.pixels k 0) → ⊥) → All (IsInRange d) (take k p.pixels)
    → IsFirstOutside d p (k % p.width) (k / p.width) (pos (get_or p.pixels k 0))
outside_at d p k is inside out before =
    let some : 0 < p.width = omega (arith, is.wide) in
    let place : p.width * (k / p.width) + k % p.width ≡ k = omega arith in
    let within : k < p.height * p.width = omega (arith, is.count) in
    record {
      column = omega arith;
      row = div_below k p.width p.height some within;
      value = ap (λ n. pos (get_or p.pixels n 0)) (sym place);
      outside = subst (λ n. IsInRange d (get_or p.pixels n 0) → ⊥) (sym place) out;
      before = subst (λ n. All (IsInRange d) (take n p.pixels)) (sym place) before;
    }

-- the pixels so far are in the range, and so is the next one
pub in_range_more : (d : ImageDecl) (seen pixels : List ℕ) (k n : ℕ) → seen ≡ pixels → k < length seen → n ≡ get_or seen k 0 → d.lo ≤ n → n ≤ d.hi → All (IsInRange d) (take k pixels) → All (IsInRange d) (take (k + 1) pixels)
in_range_more d seen pixels k n same inside is low high before =
    let value : n ≡ get_or pixels k 0 = is ∙ ap (λ l. get_or l k 0) same in
    let here : IsInRange d (get_or pixels k 0) = subst (IsInRange d) value (low, high) in
    let within : k < length pixels = subst (λ l. k < length l) same inside in
    All-more (IsInRange d) pixels k 0 within before here

pub in_range_all : (d : ImageDecl) (seen pixels : List ℕ) (k : ℕ) → seen ≡ pixels → length seen ≤ k → All (IsInRange d) (take k pixels) → All (IsInRange d) pixels
in_range_all d seen pixels k same past before =
    let all : take k pixels ≡ pixels = take_all k pixels (subst (λ l. length l ≤ k) same past) in
    subst (λ l. All (IsInRange d) l) all before

-- what is found of the first image and of the others, together
pub each_judged : (width height number : ℕ) (d : ImageDecl) (p : Picture) (ds : List ImageDecl) (ps : List Picture) (r : Option SetFault) → Suits width height d p → IsPicture p
    → MatchOption r (All (λ q. Suits width height q.0 q.1) (zip ds ps) × All IsPicture ps) (IsFirstBadImage width height (number + 1) ds ps)
    → MatchOption r (All (λ q. Suits width height q.0 q.1) (zip (d ∷ ds) (p ∷ ps)) × All IsPicture (p ∷ ps)) (IsFirstBadImage width height number (d ∷ ds) (p ∷ ps))
each_judged width height number d p ds ps None suits is rest = (All-cons (λ q. Suits width height q.0 q.1) (d, p) (zip ds ps) suits rest.0, All-cons IsPicture p ps is rest.1)
each_judged width height number d p ds ps (Some fault) suits is rest = inr (suits, rest)

-- the same, where the first are read from the lists, and the others are what is left of them
pub each_read : (width height number : ℕ) (d : ImageDecl) (p : Picture) (ds : List ImageDecl) (ps : List Picture) (r : Option SetFault) → 1 ≤ length ds → 1 ≤ length ps → d ≡ get_or ds 0 d → p ≡ get_or ps 0 p → Suits width height d p → IsPicture p
    → MatchOption r (All (λ q. Suits width height q.0 q.1) (zip (take (length ds - 1) (drop 1 ds)) (take (length ps - 1) (drop 1 ps))) × All IsPicture (take (length ps - 1) (drop 1 ps))) (IsFirstBadImage width height (number + 1) (take (length ds - 1) (drop 1 ds)) (take (length ps - 1) (drop 1 ps)))
    → MatchOption r (All (λ q. Suits width height q.0 q.1) (zip ds ps) × All IsPicture ps) (IsFirstBadImage width height number ds ps)
each_read width height number d p [] ps r some others first second suits is rest = absurd (omega arith)
each_read width height number d p (e ∷ ds) [] r some others first second suits is rest = absurd (omega arith)
each_read width height number d p (e ∷ ds) (q ∷ ps) r some others first second suits is rest =
    let decls : take (length (e ∷ ds) - 1) ds ≡ ds = take_all (length (e ∷ ds) - 1) ds (omega arith) in
    let images : take (length (q ∷ ps) - 1) ps ≡ ps = take_all (length (q ∷ ps) - 1) ps (omega arith) in
    each_judged width height number e q ds ps r (subst (λ x. Suits width height e x) second (subst (λ x. Suits width height x p) first suits)) (subst IsPicture second is) (rw (decls, images) at rest)

-- a fault of one image stands against what is asked of it
image_refused : (width height number : ℕ) (d : ImageDecl) (p : Picture) (fault : SetFault) → IsPicture p → IsImageFault width height number d p fault → KeepsRange d p → p.width ≡ width → p.height ≡ height → ⊥
image_refused width height number d p (Kind image) is fault range wide high = fault.1 range.ty
image_refused width height number d p (Size image w h) is fault range wide high = ⊎_elim (λ ne. ne wide) (λ ne. ne high) fault.4
image_refused width height number d p (Pixel image x y n) is fault range wide high =
    let first = fault.4 in
    let fits : p.width * y + p.width ≤ p.width * p.height = column_fits p.width y p.width p.height first.row (omega arith) in
    first.outside (All-get_or (IsInRange d) p.pixels (p.width * y + x) 0 (omega (arith, first.column, is.count)) range.pixels)
image_refused width height number d p (Count want got) is fault range wide high = fault
image_refused width height number d p NoOutput is fault range wide high = fault

each_refused : (width height number : ℕ) (ds : List ImageDecl) (ps : List Picture) (fault : SetFault) → IsFirstBadImage width height number ds ps fault
    → All IsPicture ps → All (λ q. KeepsRange q.0 q.1) (zip ds ps) → All (λ (p : Picture). (p.width ≡ width) × (p.height ≡ height)) ps → ⊥
each_refused width height number [] ps fault first are ranges sizes = first
each_refused width height number (d ∷ ds) [] fault first are ranges sizes = first
each_refused width height number (d ∷ ds) (p ∷ ps) fault first are ranges sizes =
    let size = All-head (λ (p : Picture). (p.width ≡ width) × (p.height ≡ height)) p ps sizes in
    ⊎_elim
    (λ here. image_refused width height number d p fault (All-head IsPicture p ps are) here (All-head (λ q. KeepsRange q.0 q.1) (d, p) (zip ds ps) ranges) size.0 size.1)
    (λ rest. each_refused width height (number + 1) ds ps fault rest.1 (All-tail IsPicture p ps are) (All-tail (λ q. KeepsRange q.0 q.1) (d, p) (zip ds ps) ranges) (All-tail (λ (p : Picture). (p.width ≡ width) × (p.height ≡ height)) p ps sizes))
    first

module _ (images : List ImageDecl) (taps : List Tap) (pictures : List Picture) where
  -- another number of images
  pub count_refused : length pictures ≢ length images → KeepsSet images taps pictures → ⊥
  count_refused differ keeps = differ keeps.count

  -- a fault of one image
  pub first_refused : (fault : SetFault) → IsFirstBadImage (width_of pictures) (height_of pictures) 0 images pictures fault → KeepsSet images taps pictures → ⊥
  first_refused fault first keeps = each_refused (width_of pictures) (height_of pictures) 0 images pictures fault first keeps.limits keeps.each keeps.sizes

  -- an output without a pixel
  pub output_refused : (HasOutput taps pictures → ⊥) → KeepsSet images taps pictures → ⊥
  output_refused none keeps = none (keeps.wide, keeps.high)

  -- a set without a fault
  pub kept : length pictures ≡ length images → AllSuit images pictures → All IsPicture pictures → HasOutput taps pictures → KeepsSet images taps pictures
  kept count suit are output = record {
    count = count;
    each = (All-weaker (λ q. Suits (width_of pictures) (height_of pictures) q.0 q.1) (λ q. KeepsRange q.0 q.1) (λ q suits. suits.range) (zip images pictures) suit);
    limits = are;
    sizes = same_sizes (width_of pictures) (height_of pictures) images pictures count suit;
    wide = output.0;
    high = output.1;
  }
    where
      same_sizes : (width height : ℕ) (ds : List ImageDecl) (ps : List Picture) → length ps ≡ length ds → All (λ q. Suits width height q.0 q.1) (zip ds ps) → All (λ (p : Picture). (p.width ≡ width) × (p.height ≡ height)) ps
      same_sizes width height ds [] count suit = All-nil (λ (p : Picture). (p.width ≡ width) × (p.height ≡ height))
      same_sizes width height [] (p ∷ ps) count suit = absurd (omega arith)
      same_sizes width height (d ∷ ds) (p ∷ ps) count suit =
          let here = All-head (λ q. Suits width height q.0 q.1) (d, p) (zip ds ps) suit in
          All-cons (λ (p : Picture). (p.width ≡ width) × (p.height ≡ height)) p ps (here.wide, here.high) (same_sizes width height ds ps (omega arith) (All-tail (λ q. Suits width height q.0 q.1) (d, p) (zip ds ps) suit))

  -- a fault of one image is one of the set
  pub first_is_set_fault : (fault : SetFault) → length pictures ≡ length images → IsFirstBadImage (width_of pictures) (height_of pictures) 0 images pictures fault → IsSetFault images taps pictures fault
  first_is_set_fault (Kind image) count first = (count, first)
  first_is_set_fault (Size image w h) count first = (count, first)
  first_is_set_fault (Pixel image x y n) count first = (count, first)
  first_is_set_fault (Count want got) count first = absurd (no_other (width_of pictures) (height_of pictures) 0 images pictures first)
    where
      no_other : (width height number : ℕ) (ds : List ImageDecl) (ps : List Picture) → IsFirstBadImage width height number ds ps (Count want got) → ⊥
      no_other width height number [] ps first = first
      no_other width height number (d ∷ ds) [] first = first
      no_other width height number (d ∷ ds) (p ∷ ps) first = ⊎_elim (λ here. here) (λ rest. no_other width height (number + 1) ds ps rest.1) first
  first_is_set_fault NoOutput count first = absurd (no_other (width_of pictures) (height_of pictures) 0 images pictures first)
    where
      no_other : (width height number : ℕ) (ds : List ImageDecl) (ps : List Picture) → IsFirstBadImage width height number ds ps NoOutput → ⊥
      no_other width height number [] ps first = first
      no_other width height number (d ∷ ds) [] first = first
      no_other width height number (d ∷ ds) (p ∷ ps) first = ⊎_elim (λ here. here) (λ rest. no_other width height (number + 1) ds ps rest.1) first

-- what is found of a set, where the images that were seen are the set's, and their size was told
module _ (images : List ImageDecl) (taps : List Tap) (pictures seen : List Picture) (width height : ℕ) (same : seen ≡ pictures) (wide : width ≡ width_of seen) (high : height ≡ height_of seen) (count : length seen ≡ length images) where
  pub found_first : (fault : SetFault) → IsFirstBadImage width height 0 images seen fault → IsSetFault images taps pictures fault
  found_first fault first =
      let told : IsFirstBadImage (width_of seen) (height_of seen) 0 images seen fault = subst (λ h. IsFirstBadImage (width_of seen) h 0 images seen fault) high (subst (λ w. IsFirstBadImage w height 0 images seen fault) wide first) in
      subst (λ l. IsSetFault images taps l fault) same (first_is_set_fault images taps seen fault count told)

  pub found_refused : (fault : SetFault) → IsFirstBadImage width height 0 images seen fault → KeepsSet images taps pictures → ⊥
  found_refused fault first =
      let told : IsFirstBadImage (width_of seen) (height_of seen) 0 images seen fault = subst (λ h. IsFirstBadImage (width_of seen) h 0 images seen fault) high (subst (λ w. IsFirstBadImage w height 0 images seen fault) wide first) in
      subst (λ l. KeepsSet images taps l → ⊥) same (first_refused images taps seen fault told)

  pub found_kept : All (λ q. Suits width height q.0 q.1) (zip images seen) × All IsPicture seen → HasOutput taps seen → KeepsSet images taps pictures
  found_kept suit output =
      let told : AllSuit images seen = subst (λ h. All (λ q. Suits (width_of seen) h q.0 q.1) (zip images seen)) high (subst (λ w. All (λ q. Suits w height q.0 q.1) (zip images seen)) wide suit.0) in
      subst (λ l. KeepsSet images taps l) same (kept images taps seen count told suit.1 output)
