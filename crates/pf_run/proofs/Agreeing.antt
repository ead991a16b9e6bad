-- A run of a text that keeps the headline's promise leaves the kernel's output.
use Rattle.std.proofs.Common.{◌≡◌, ℕ, zero, suc, ◌+◌, ◌*◌, ◌/◌, ◌%◌, ◌^◌, ◌<◌, ◌≤◌, List, [], length, get_or, All, false, Ok, refl, sym, ap, subst, ◌∙◌, arith}
use Rattle.std.specs.Prelude.{ℤ, pos, unsigned_abs, Bool}
use Rattle.std.proofs.lemmas.Int.{ints}
use Rattle.std.proofs.lemmas.Nat.{div_below}
use Rattle.std.proofs.lemmas.List.{ext_get_or}
use Rattle.std.proofs.lemmas.List.Elements.{All-weaker}
use Rattle.pf_ints.specs.declared.lane.LaneType.{LaneType}
use Rattle.pf_ints.specs.declared.lane.Bits.{Bits}
use Rattle.pf_ints.specs.declared.lane.Bits.TheVariants.{Eight, Sixteen, ThirtyTwo}
use Rattle.pf_ints.specs.Meaning.Lanes.{IsIn, bit_count}
use Rattle.pf_ints.specs.Meaning.Images.{Picture, IsPicture, IsPixelType, pixel}
use Rattle.pf_values.specs.declared.kernel.ImageDecl.{ImageDecl}
use Rattle.pf_values.specs.declared.names.Tap.{Tap}
use Rattle.pf_values.specs.Meaning.Kernels.{Source, Keeps, KeepsSet, Out, out_width, out_height}
use Rattle.pf_machine.specs.declared.memory.Region.{Region}
use Rattle.pf_machine.specs.Meaning.Bytes.{packed, lanes}
use Rattle.pf_machine.specs.Meaning.Memory.{nowhere}
use Rattle.pf_machine.specs.Meaning.Programs.{ProgramOf}
use Rattle.pf_machine.specs.Meaning.Runs.{RunEnd, Finished, Leaves, memory, pixel_bytes, pixels_in_memory, columns, rows}
use Rattle.pf_machine.specs.Meaning.Tables.{Table}
use Rattle.pf_machine.proofs.ByteLaws.{lanes-packed}
use Rattle.pf_machine.proofs.MemoryLaws.{memory-output, output_place}
use Rattle.pf_isa.specs.Meaning.Headline.{Headline}
use Rattle.pf_run.specs.Meaning.AnyPrograms.{Returns}
use Rattle.pf_run.specs.Meaning.Answers.{Ran, run_end}
use Rattle.pf_run.specs.Meaning.Placement.{run_places, blank_scratch, blank_output}
use Rattle.pf_run.proofs.ReadyLaws.{ready}

-- ---- one output

same_picture : (p q : Picture) → p.ty ≡ q.ty → p.width ≡ q.width → p.height ≡ q.height → p.pixels ≡ q.pixels → p ≡ q
same_picture p q = made p.width p.height p.ty p.pixels
  where
    made : (width height : ℕ) (ty : LaneType) (pixels : List ℕ) → ty ≡ q.ty → width ≡ q.width → height ≡ q.height → pixels ≡ q.pixels → ◌≡◌ {A = Picture} (record { width = width; height = height; ty = ty; pixels = pixels }) q
    made width height ty pixels a b c d = rw (a, b, c, d) refl

same_pos : (m n : ℕ) → pos m ≡ pos n → m ≡ n
same_pos m n e = omega (arith, ints)

-- a kernel has one output on the same images
pub one_output : (s : Source) (pictures : List Picture) (o q : Picture) → Out s pictures o → Out s pictures q → o ≡ q
one_output s pictures o q first other = same_picture o q (first.ty ∙ sym other.ty) wide high (ext_get_or 0 o.pixels q.pixels long each)
  where
    wide : o.width ≡ q.width
    wide = same_pos o.width q.width (first.width ∙ sym other.width)

    high : o.height ≡ q.height
    high = same_pos o.height q.height (first.height ∙ sym other.height)

    long : length o.pixels ≡ length q.pixels
    long = first.count ∙ ap (λ w. w * o.height) wide ∙ ap (λ h. q.width * h) high ∙ sym other.count

    at : (x y : ℕ) → x < o.width → y < o.height → get_or o.pixels (o.width * y + x) 0 ≡ get_or q.pixels (o.width * y + x) 0
    at x y column row =
        same_pos _ _ (first.each x y column row ∙ sym (other.each x y (subst (λ w. x < w) wide column) (subst (λ h. y < h) high row)))
        ∙ ap (λ w. get_or q.pixels (w * y + x) 0) (sym wide)

    some : (k w h : ℕ) → k < w * h → 0 < w
    some k zero h low = absurd (let none : zero * h ≡ 0 = omega arith in omega arith)
    some k (suc w) h low = omega arith

    each : (k : ℕ) → k < length o.pixels → get_or o.pixels k 0 ≡ get_or q.pixels k 0
    each k low =
        let inside : k < o.width * o.height = subst (λ n. k < n) first.count low in
        let wide_enough : 0 < o.width = some k o.width o.height inside in
        let within : k < o.height * o.width = omega (arith, inside) in
        let place : o.width * (k / o.width) + k % o.width ≡ k = omega (arith, wide_enough) in
        let column : k % o.width < o.width = omega (arith, wide_enough) in
        let here = at (k % o.width) (k / o.width) column (div_below k o.width o.height wide_enough within) in
        subst (λ n. get_or o.pixels n 0 ≡ get_or q.pixels n 0) place here

-- ---- pixels and their bytes

below_by : (bits : Bits) (n : ℕ) → bit_count bits ≤ 16 → IsIn (record { signed = false; bits = bits }) (pos n) → n < 256 ^ pixel_bytes (record { signed = false; bits = bits })
below_by Eight n narrow is = let top = is.high in omega (arith, ints)
below_by Sixteen n narrow is = let top = is.high in omega (arith, ints)
below_by ThirtyTwo n narrow is = absurd (omega arith)

below : (ty : LaneType) (n : ℕ) → IsPixelType ty → IsIn ty (pos n) → n < 256 ^ pixel_bytes ty
below ty n pixel is = made ty.signed ty.bits pixel.unsigned pixel.narrow is
  where
    made : (signed : Bool) (bits : Bits) → signed ≡ false → bit_count bits ≤ 16 → IsIn (record { signed = signed; bits = bits }) (pos n) → n < 256 ^ pixel_bytes (record { signed = signed; bits = bits })
    made signed bits unsigned narrow is = subst (λ (s : Bool). n < 256 ^ pixel_bytes (record { signed = s; bits = bits })) (sym unsigned) (below_by bits n narrow (subst (λ (s : Bool). IsIn (record { signed = s; bits = bits }) (pos n)) unsigned is))

pixels_are : (o : Picture) → IsPicture o → lanes (pixel_bytes o.ty) (length o.pixels) (pixels_in_memory o.ty o.pixels) ≡ o.pixels
pixels_are o is = lanes-packed (pixel_bytes o.ty) (length o.pixels) o.pixels refl (All-weaker (λ n. IsIn o.ty (pos n)) (λ n. n < 256 ^ pixel_bytes o.ty) (λ n member. below o.ty n is.ty member) o.pixels is.each)

-- images of one type and size that are the same in memory
pub same_in_memory : (o q : Picture) → IsPicture o → IsPicture q → o.ty ≡ q.ty → o.width ≡ q.width → o.height ≡ q.height → pixels_in_memory o.ty o.pixels ≡ pixels_in_memory q.ty q.pixels → o ≡ q
same_in_memory o q first other ty wide high same =
    let long : length o.pixels ≡ length q.pixels = first.count ∙ ap (λ w. w * o.height) wide ∙ ap (λ h. q.width * h) high ∙ sym other.count in
    same_picture o q ty wide high
    (sym (pixels_are o first) ∙ ap (λ bs. lanes (pixel_bytes o.ty) (length o.pixels) bs) same ∙ ap (λ n. lanes (pixel_bytes o.ty) n (pixels_in_memory q.ty q.pixels)) long ∙ ap (λ t. lanes (pixel_bytes t) (length q.pixels) (pixels_in_memory q.ty q.pixels)) ty ∙ pixels_are q other)

-- ---- the runs

abbrev bytes_of : RunEnd → List Region
bytes_of (Finished regions) = regions
bytes_of _ = []

module _ {I O : Type 0} (t : Table O) (is_op : O → Type 0) (source : Source) (text : List ℕ) (h : Headline I t is_op source text) (pictures : List Picture) (keeps : Keeps source pictures) where
  abbrev p : ProgramOf I O
  p = h.program

  kept : KeepsSet p.head.images p.head.taps pictures
  kept = subst (λ (ds : List ImageDecl). KeepsSet ds p.head.taps pictures) (sym h.images) (subst (λ (ts : List Tap). KeepsSet source.images ts pictures) (sym h.taps) keeps)

  left : Leaves t p pictures (run_places p.head pictures) (blank_scratch p.head) (blank_output p.head pictures) (h.right pictures keeps).0
  left = (h.right pictures keeps).2 (run_places p.head pictures) (blank_scratch p.head) (blank_output p.head pictures) (ready p.head pictures h.parses.program.head kept).places

  -- all rows of its run return
  pub returns : Returns t p pictures
  returns = (_, kept, left.ends)

  -- and what it leaves is the kernel's output
  pub leaves_output : (o q : Picture) → Out source pictures o → IsPicture o → Ran t p pictures (Ok q) → q ≡ o
  leaves_output o q out is ran =
      let mine = ran.1.leaves in
      let at = run_places p.head pictures in
      let same : o ≡ (h.right pictures keeps).0 = one_output source pictures o (h.right pictures keeps).0 out (h.right pictures keeps).1 in
      let ends : Finished (memory pictures at mine.table mine.kept (pixels_in_memory q.ty q.pixels)) ≡ Finished (memory pictures at left.table left.kept (pixels_in_memory o.ty o.pixels)) =
      sym mine.ends ∙ left.ends ∙ ap (λ (r : Picture). Finished (memory pictures at left.table left.kept (pixels_in_memory r.ty r.pixels))) (sym same) in
      let regions : memory pictures at mine.table mine.kept (pixels_in_memory q.ty q.pixels) ≡ memory pictures at left.table left.kept (pixels_in_memory o.ty o.pixels) = ap bytes_of ends in
      let bytes : pixels_in_memory q.ty q.pixels ≡ pixels_in_memory o.ty o.pixels =
      ap (λ (r : Region). r.bytes) (sym (memory-output pictures at mine.table mine.kept (pixels_in_memory q.ty q.pixels)))
      ∙ ap (λ (rs : List Region). (get_or rs (output_place pictures at) nowhere).bytes) regions
      ∙ ap (λ (r : Region). r.bytes) (memory-output pictures at left.table left.kept (pixels_in_memory o.ty o.pixels)) in
      same_in_memory q o ran.1.picture is (ran.1.ty ∙ h.out_ty ∙ sym out.ty) (ran.1.width ∙ across) (ran.1.height ∙ down) bytes
    where
      whole : (m : ℕ) (z : ℤ) → pos m ≡ z → unsigned_abs z ≡ m
      whole m z e = omega (arith, ints)

      across : columns p.head pictures ≡ o.width
      across = ap (λ (ts : List Tap). unsigned_abs (out_width ts pictures)) h.taps ∙ whole o.width (out_width source.taps pictures) out.width

      down : rows p.head pictures ≡ o.height
      down = ap (λ (ts : List Tap). unsigned_abs (out_height ts pictures)) h.taps ∙ whole o.height (out_height source.taps pictures) out.height
