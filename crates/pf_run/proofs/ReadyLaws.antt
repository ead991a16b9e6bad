-- Images that are such as a program asks for, and what follows of their sizes.
use Rattle.std.proofs.Common.{◌≡◌, ◌*◌, ◌<◌, ◌≤◌, ◌^◌, List, [], ◌∷◌, length, All, refl, sym, ap, subst, ◌∙◌, arith, ℤ}
use Rattle.std.specs.Prelude.{pos, ◌≤ℤ◌, unsigned_abs}
use Rattle.std.proofs.lemmas.Int.{ints}
use Rattle.std.proofs.lemmas.Nat.{mul-le}
use Rattle.std.proofs.lemmas.List.Elements.{All-head, All-weaker}
use Rattle.pf_ints.specs.Meaning.Images.{Picture, IsPicture}
use Rattle.pf_values.specs.declared.kernel.ImageDecl.{ImageDecl}
use Rattle.pf_values.specs.declared.names.Tap.{Tap}
use Rattle.pf_values.specs.Meaning.Kernels.{KeepsSet, left_reach, up_reach, width_of, height_of, out_width, out_height}
use Rattle.pf_machine.specs.declared.program.Head.{Head}
use Rattle.pf_machine.specs.Meaning.Heads.{IsHead, IsTap}
use Rattle.pf_machine.specs.Meaning.Runs.{Places, IsPlaced, columns, rows}
use Rattle.pf_run.specs.declared.plan.Plan.{Plan}
use Rattle.pf_run.specs.declared.reach.Reach.{Reach}
use Rattle.pf_run.specs.Steps.Pixels.{IsReach}
use Rattle.pf_run.specs.Steps.Rows.{IsPlan}
use Rattle.pf_run.specs.Meaning.Placement.{places_of, run_places, blank_scratch, blank_output}
use Rattle.pf_run.proofs.PlacedLaws.{columns_within, rows_within, placed, output_low, images_low}

-- what is known of such images
pub record Ready (h : Head) (pictures : List Picture) : Type 0 where
  pub limits : All IsPicture pictures
  pub few : length pictures ≤ 8
  pub across : pos 1 ≤ℤ out_width h.taps pictures
  pub down : pos 1 ≤ℤ out_height h.taps pictures
  pub first_wide : width_of pictures ≤ 8192
  pub first_high : height_of pictures ≤ 8192
  pub wide : 1 ≤ columns h pictures
  pub high : 1 ≤ rows h pictures
  pub most_wide : columns h pictures ≤ 8192
  pub most_high : rows h pictures ≤ 8192
  pub most : columns h pictures * rows h pictures ≤ 16777216
  pub taps : All (λ t. t.image < length pictures) h.taps
  pub low : All (λ start. start < 2 ^ 31) (run_places h pictures).images
  pub output : (run_places h pictures).output < 2 ^ 31
  pub places : IsPlaced h pictures (run_places h pictures) (blank_scratch h) (blank_output h pictures)

-- the size of the first
pub record SmallFirst (pictures : List Picture) : Type 0 where
  pub wide : width_of pictures ≤ 8192
  pub high : height_of pictures ≤ 8192
  pub most : width_of pictures * height_of pictures ≤ 16777216

pub small_first : (pictures : List Picture) → All IsPicture pictures → SmallFirst pictures
small_first [] are = record { wide = omega arith; high = omega arith; most = omega arith }
small_first (p ∷ ps) are = let is = All-head IsPicture p ps are in record { wide = is.most_wide; high = is.most_high; most = is.most }

pub ready : (h : Head) (pictures : List Picture) → IsHead h → KeepsSet h.images h.taps pictures → Ready h pictures
ready h pictures is keeps =
    let first = small_first pictures keeps.limits in
    let count = keeps.count in
    let of_head = is.few_images in
    let few : length pictures ≤ 8 = omega arith in
    let some : 1 ≤ columns h pictures = omega (arith, ints, keeps.wide) in
    let others : 1 ≤ rows h pictures = omega (arith, ints, keeps.high) in
    let wide : columns h pictures ≤ width_of pictures = columns_within h.taps pictures keeps.wide in
    let high : rows h pictures ≤ height_of pictures = rows_within h.taps pictures keeps.high in
    let product : columns h pictures * rows h pictures ≤ width_of pictures * height_of pictures = mul-le (columns h pictures) (rows h pictures) (width_of pictures) (height_of pictures) wide high in
    let least = first.wide in
    let tall = first.high in
    let all = first.most in
    let most : columns h pictures * rows h pictures ≤ 16777216 = omega arith in
    record {
      limits = keeps.limits;
      few = few;
      across = keeps.wide;
      down = keeps.high;
      first_wide = first.wide;
      first_high = first.high;
      wide = some;
      high = others;
      most_wide = omega arith;
      most_high = omega arith;
      most = most;
      taps = All-weaker (IsTap (length h.images)) (λ t. t.image < length pictures) (λ t tap. subst (λ n. t.image < n) (sym count) tap.image) h.taps is.taps;
      low = images_low h is pictures keeps.limits few most;
      output = output_low h is pictures keeps.limits few most;
      places = placed h is pictures keeps.limits few most;
    }

whole : (z : ℤ) → pos 1 ≤ℤ z → pos (unsigned_abs z) ≡ z
whole z some = omega (arith, ints)

at_least_one : (z : ℤ) → pos 1 ≤ℤ z → 1 ≤ unsigned_abs z
at_least_one z some = omega (arith, ints)

-- the reach of taps on images within the limits, where the output has a pixel
pub reach_is : (taps : List Tap) (pictures : List Picture) (r : Reach) → All IsPicture pictures → pos 1 ≤ℤ out_width taps pictures → pos 1 ≤ℤ out_height taps pictures
    → r.left ≡ left_reach taps → r.up ≡ up_reach taps → r.columns ≡ unsigned_abs (out_width taps pictures) → r.rows ≡ unsigned_abs (out_height taps pictures) → IsReach taps pictures r
reach_is taps pictures r limits positive tall_enough left up across down =
    let first = small_first pictures limits in
    let wide = columns_within taps pictures positive in
    let high = rows_within taps pictures tall_enough in
    let product = mul-le (unsigned_abs (out_width taps pictures)) (unsigned_abs (out_height taps pictures)) _ _ wide high in
    let least = first.wide in
    let tall = first.high in
    let all = first.most in
    let some : 1 ≤ unsigned_abs (out_width taps pictures) = at_least_one (out_width taps pictures) positive in
    let others : 1 ≤ unsigned_abs (out_height taps pictures) = at_least_one (out_height taps pictures) tall_enough in
    record {
      left = left;
      up = up;
      columns = ap pos across ∙ whole (out_width taps pictures) positive;
      rows = ap pos down ∙ whole (out_height taps pictures) tall_enough;
      wide = omega arith;
      high = omega arith;
      most_columns = omega arith;
      most_rows = omega arith;
      most = rw (across, down) (omega arith);
    }

-- a plan for such images
pub plan_is : (h : Head) (pictures : List Picture) (plan : Plan) → Ready h pictures → plan.taps ≡ h.taps → places_of plan.starts ≡ run_places h pictures → IsReach h.taps pictures plan.reach → IsPlan pictures plan
plan_is h pictures plan of taps places reach = record {
  reach = subst (λ ts. IsReach ts pictures plan.reach) (sym taps) reach;
  columns = ap unsigned_abs reach.columns ∙ ap (λ ts. unsigned_abs (out_width ts pictures)) (sym taps);
  taps = subst (λ ts. All (λ t. t.image < length pictures) ts) (sym taps) of.taps;
  starts = ap (λ (at : Places). length at.images) places ∙ of.places.image_count;
  low = subst (λ (at : Places). All (λ start. start < 2 ^ 31) at.images) (sym places) of.low;
  output = subst (λ (at : Places). at.output < 2 ^ 31) (sym places) of.output;
}

-- there are as many images as declared
pub few_images : (images : List ImageDecl) (taps : List Tap) (pictures seen : List Picture) → KeepsSet images taps pictures → seen ≡ pictures → length images ≤ 8 → length seen ≤ 8
few_images images taps pictures seen keeps same few =
    let count = keeps.count in
    subst (λ l. length l ≤ 8) (sym same) (omega arith)
