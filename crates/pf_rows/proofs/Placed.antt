-- A run's placement places each of its rows.
use Rattle.std.proofs.Common.{◌≡◌, ℕ, suc, ◌+◌, ◌*◌, ◌/◌, ◌^◌, ◌<◌, ◌≤◌, List, [], ◌∷◌, length, map, get_or, arith, ap, sym, subst, ◌∙◌}
use Rattle.std.specs.Prelude.{pos, zip, ◌≤ℤ◌}
use Rattle.std.proofs.lemmas.Int.{ints}
use Rattle.std.proofs.Math.Nat.{mul-add, mul_assoc, mul-le-mul_left}
use Rattle.std.proofs.lemmas.Nat.{column_fits, mul-le}
use Rattle.std.proofs.lemmas.List.{get_or_at, get_or-map, length-map, get_or_append_left, get_or-append-add}
use Rattle.std.proofs.lemmas.List.Elements.{All-get_or, All-weaker, All-map}
use Rattle.std.proofs.lemmas.Slice.Zip.{get_or-zip, length-zip}
use Rattle.pf_ints.specs.Meaning.Images.{Picture, IsPicture, IsPixelType}
use Rattle.pf_ints.specs.Meaning.Lanes.{bit_count}
use Rattle.pf_ints.specs.declared.lane.LaneType.{LaneType}
use Rattle.pf_ints.specs.declared.lane.Bits.{Bits}
use Rattle.pf_ints.specs.declared.lane.Bits.TheVariants.{Eight, Sixteen, ThirtyTwo}
use Rattle.pf_values.specs.declared.names.Tap.{Tap}
use Rattle.pf_values.specs.Meaning.NamedTerms.{no_tap}
use Rattle.pf_values.specs.Meaning.Kernels.{KeepsSet, KeepsRange, no_picture, width_of, height_of, out_width, out_height, tap_column, tap_row, no_decl}
use Rattle.pf_machine.specs.declared.program.Head.{Head}
use Rattle.pf_machine.specs.declared.memory.Region.{Region}
use Rattle.pf_machine.specs.Meaning.Bytes.{bytes, packed}
use Rattle.pf_machine.specs.Meaning.Memory.{nowhere}
use Rattle.pf_machine.specs.Meaning.Heads.{IsHead, IsDecl, IsTap}
use Rattle.pf_machine.specs.Meaning.Runs.{Places, IsPlaced, pixel_bytes, columns, rows, tap_address, row_entries, memory, output_size}
use Rattle.pf_machine.proofs.MemoryLaws.{image_bytes, memory-image, memory-output, output_place, length-memory, length-image_regions}
use Rattle.pf_machine.proofs.RowLaws.{row_apart, row_low, length-row_entries, output_in_rows}
use Rattle.pf_machine.proofs.ByteLaws.{length-packed, lane_at}
use Rattle.pf_rows.specs.Meaning.Scratch.{scratch_bytes}
use Rattle.pf_rows.specs.Meaning.BlockRows.{tap_widths, tap_pixel}
use Rattle.pf_rows.proofs.Cells.{part}
use Rattle.pf_rows.proofs.Taps.{columns_at, columns_fit, rows_fit}
use Rattle.pf_rows.proofs.RowPlaces.{RowPlace}

-- a pixel has one byte or two
one_or_two : (b : Bits) → bit_count b ≤ 16 → (1 ≤ bit_count b / 8) × (bit_count b / 8 ≤ 2)
one_or_two Eight low = (omega arith, omega arith)
one_or_two Sixteen low = (omega arith, omega arith)
one_or_two ThirtyTwo low = absurd (omega arith)

pub pixel_one_or_two : (ty : LaneType) → IsPixelType ty → (1 ≤ pixel_bytes ty) × (pixel_bytes ty ≤ 2)
pixel_one_or_two ty is = one_or_two ty.bits is.narrow

module _ (h : Head) (is_head : IsHead h) (pictures : List Picture) (keeps : KeepsSet h.images h.taps pictures) where
  -- an image has its declared type, and the size of all
  record IsDeclared (k : ℕ) : Type 0 where
    known : k < length pictures
    ty : (get_or pictures k no_picture).ty ≡ (get_or h.images k no_decl).ty
    width : (get_or pictures k no_picture).width ≡ width_of pictures
    count : length (get_or pictures k no_picture).pixels ≡ width_of pictures * height_of pictures

  image_is : (k : ℕ) → k < length h.images → IsDeclared k
  image_is k inside =
      let p = get_or pictures k no_picture in
      let known : k < length pictures = omega (arith, keeps.count) in
      let picture : IsPicture p = All-get_or IsPicture pictures k no_picture known keeps.limits in
      let size = All-get_or (λ (p : Picture). (p.width ≡ width_of pictures) × (p.height ≡ height_of pictures)) pictures k no_picture known keeps.sizes in
      let pair : get_or (zip h.images pictures) k (no_decl, no_picture) ≡ (get_or h.images k no_decl, p) = get_or-zip h.images pictures k (no_decl, no_picture) inside known in
      let kept : KeepsRange (get_or h.images k no_decl) p = subst (λ q. KeepsRange q.0 q.1) pair (All-get_or (λ q. KeepsRange q.0 q.1) (zip h.images pictures) k (no_decl, no_picture) (omega (arith, length-zip h.images pictures)) keeps.each) in
      record {
        known = known;
        ty = kept.ty;
        width = size.0;
        count = picture.count ∙ ap (λ w. w * p.height) size.0 ∙ ap (λ l. width_of pictures * l) size.1;
      }

  -- the first of a tap's pixels in row y
  abbrev pub place_of_tap : ℕ → ℕ → ℕ
  place_of_tap y k =
      let t = get_or h.taps k no_tap in
      let p = get_or pictures t.image no_picture in
      pixel_bytes p.ty * (p.width * tap_row h.taps y t + tap_column h.taps 0 t)

  abbrev pub image_of_tap : ℕ → ℕ
  image_of_tap k = (get_or h.taps k no_tap).image

  wide : pos 1 ≤ℤ out_width h.taps pictures
  wide = keeps.wide

  high : pos 1 ≤ℤ out_height h.taps pictures
  high = keeps.high

  pub some_columns : 1 ≤ columns h pictures
  some_columns = let some = wide in omega (arith, ints)

  module _ (k : ℕ) (known : k < length h.taps) where
    abbrev tap : Tap
    tap = get_or h.taps k no_tap

    tap_image : tap.image < length h.images
    tap_image = let t : IsTap (length h.images) tap = All-get_or (IsTap (length h.images)) h.taps k no_tap known is_head.taps in t.image

    -- the bytes of its pixels
    pub width_is : get_or (tap_widths h) k 0 ≡ pixel_bytes (get_or pictures tap.image no_picture).ty
    width_is = let image = image_is tap.image tap_image in get_or-map (λ t. pixel_bytes (get_or h.images t.image no_decl).ty) h.taps k no_tap 0 known ∙ ap pixel_bytes (sym image.ty)

    image_size : length (image_bytes pictures tap.image) ≡ get_or (tap_widths h) k 0 * (width_of pictures * height_of pictures)
    image_size =
        let image = image_is tap.image tap_image in
        let p = get_or pictures tap.image no_picture in
        length-packed (pixel_bytes p.ty) p.pixels ∙ ap (λ m. pixel_bytes p.ty * m) image.count ∙ ap (λ b. b * (width_of pictures * height_of pictures)) (sym width_is)

    -- pixel x of the row, among the pixels of the image
    place_is : (y x : ℕ)
        → place_of_tap y k + get_or (tap_widths h) k 0 * x ≡ get_or (tap_widths h) k 0 * (width_of pictures * tap_row h.taps y tap + (tap_column h.taps 0 tap + x))
    place_is y x =
        let image = image_is tap.image tap_image in
        let w = get_or (tap_widths h) k 0 in
        let line = width_of pictures * tap_row h.taps y tap + tap_column h.taps 0 tap in
        let start : place_of_tap y k ≡ w * line = ap (λ b. b * ((get_or pictures tap.image no_picture).width * tap_row h.taps y tap + tap_column h.taps 0 tap)) (sym width_is) ∙ ap (λ l. w * (l * tap_row h.taps y tap + tap_column h.taps 0 tap)) image.width in
        let sum : line + x ≡ width_of pictures * tap_row h.taps y tap + (tap_column h.taps 0 tap + x) = omega arith in
        ap (λ m. m + w * x) start ∙ sym (mul-add w line x) ∙ ap (λ m. w * m) sum

    tap_fits : (y : ℕ) → y < rows h pictures → place_of_tap y k + get_or (tap_widths h) k 0 * columns h pictures ≤ length (image_bytes pictures tap.image)
    tap_fits y inside =
        let w = get_or (tap_widths h) k 0 in
        let column = columns_fit h.taps pictures k known wide high in
        let line = rows_fit h.taps pictures k known wide high y inside in
        let area = column_fits (width_of pictures) (tap_row h.taps y tap) (width_of pictures) (height_of pictures) line (omega arith) in
        let all : w * (width_of pictures * tap_row h.taps y tap + (tap_column h.taps 0 tap + columns h pictures)) ≤ w * (width_of pictures * height_of pictures) = mul-le-mul_left w (omega arith) in
        let here = place_is y (columns h pictures) in
        let size = image_size in
        omega arith

    -- the bytes of pixel x of the row
    pub pixel_is : (y x : ℕ) → y < rows h pictures → x < columns h pictures
        → part (place_of_tap y k + get_or (tap_widths h) k 0 * x) (get_or (tap_widths h) k 0) (image_bytes pictures tap.image) ≡ bytes (get_or (tap_widths h) k 0) (tap_pixel h.taps pictures x y tap)
    pixel_is y x inside_row inside =
        let image = image_is tap.image tap_image in
        let p = get_or pictures tap.image no_picture in
        let w = get_or (tap_widths h) k 0 in
        let column = columns_fit h.taps pictures k known wide high in
        let line = rows_fit h.taps pictures k known wide high y inside_row in
        let area = column_fits (width_of pictures) (tap_row h.taps y tap) (width_of pictures) (height_of pictures) line (omega arith) in
        let at_x = columns_at h.taps pictures k known wide high x in
        let number_is : width_of pictures * tap_row h.taps y tap + (tap_column h.taps 0 tap + x) ≡ p.width * tap_row h.taps y tap + tap_column h.taps x tap = ap (λ l. width_of pictures * tap_row h.taps y tap + l) (sym at_x) ∙ ap (λ l. l * tap_row h.taps y tap + tap_column h.taps x tap) (sym image.width) in
        let m = width_of pictures * tap_row h.taps y tap + (tap_column h.taps 0 tap + x) in
        let count = image.count in
        let inside_m : m < length p.pixels = omega arith in
        ap (λ a. part a w (image_bytes pictures tap.image)) (place_is y x)
        ∙ ap (λ b. part (w * m) w (packed b p.pixels)) (sym width_is)
        ∙ lane_at w m p.pixels inside_m
        ∙ ap (λ l. bytes w (get_or p.pixels l 0)) number_is

  module _ (vector slots : ℕ) (some : 1 ≤ vector) (most : vector ≤ 128) (scratch_is : h.scratch ≡ scratch_bytes vector (length h.taps) slots) (at : Places) (scratch output : List ℕ) (placed : IsPlaced h pictures at scratch output) (y : ℕ) (inside : y < rows h pictures) where
    abbrev entries : List ℕ
    entries = row_entries h pictures at y

    abbrev addresses : List ℕ
    addresses = map (tap_address h.taps pictures at.images y) h.taps

    abbrev pub line_at : ℕ
    line_at = pixel_bytes h.out_ty * (columns h pictures * y)

    abbrev row_memory : List Region
    row_memory = memory pictures at (packed 8 entries) scratch output

    region_low : (k : ℕ) → k < length pictures + 3 → (get_or row_memory k nowhere).start + length (get_or row_memory k nowhere).bytes < 2 ^ 31
    region_low k known = row_low h pictures at y scratch output placed k nowhere (omega (arith, length-memory pictures at (packed 8 entries) scratch output placed.image_count))

    entry_of : (k : ℕ) → k < length h.taps → get_or entries k 0 ≡ get_or at.images (image_of_tap k) 0 + place_of_tap y k
    entry_of k known = get_or_append_left addresses ((at.output + line_at) ∷ at.scratch ∷ columns h pictures ∷ []) 0 k (omega (arith, length-map h.taps (tap_address h.taps pictures at.images y))) ∙ get_or-map (tap_address h.taps pictures at.images y) h.taps k no_tap 0 known

    pub row_placed : RowPlace vector pictures at entries (tap_widths h) (pixel_bytes h.out_ty) slots (columns h pictures) h.scratch (output_size h pictures) line_at image_of_tap (place_of_tap y)
    row_placed =
        let n = columns h pictures in
        let width = pixel_bytes h.out_ty in
        let count : length addresses ≡ length h.taps = length-map h.taps (tap_address h.taps pictures at.images y) in
        let widths_count : length (tap_widths h) ≡ length h.taps = length-map h.taps (λ t. pixel_bytes (get_or h.images t.image no_decl).ty) in
        let rest : List ℕ = (at.output + line_at) ∷ at.scratch ∷ n ∷ [] in
        let table_low : at.table + length (packed 8 entries) < 2 ^ 31 = region_low 0 (omega arith) in
        let scratch_low : at.scratch + length scratch < 2 ^ 31 = region_low 1 (omega arith) in
        let scratch_are = placed.scratch_bytes in
        let output_are = placed.output_bytes in
        let table_long = length-packed 8 entries in
        let size = length-row_entries h pictures at y in
        let found = memory-output pictures at (packed 8 entries) scratch output in
        let images_count = length-image_regions at.images pictures placed.image_count in
        let low : at.output + length output < 2 ^ 31 = subst (λ r. r.start + length r.bytes < 2 ^ 31) found (region_low (output_place pictures at) (omega arith)) in
        let wide_out = pixel_one_or_two h.out_ty is_head.out_ty in
        let line_is : line_at ≡ width * n * y = sym (mul_assoc width n y) in
        let whole = output_in_rows h pictures in
        let area = column_fits (width * n) y (width * n) (rows h pictures) inside (omega arith) in
        let smaller : 1 * n ≤ width * n = mul-le 1 n width n wide_out.0 (omega arith) in
        let out_at : get_or entries (length h.taps) 0 ≡ at.output + line_at = get_or_at addresses (at.output + line_at) (at.scratch ∷ n ∷ []) 0 (length h.taps) count in
        let second : length (tap_widths h) + 1 ≡ length addresses + 1 = omega arith in
        let third : length (tap_widths h) + 2 ≡ length addresses + 2 = omega arith in
        record {
          some = some;
          most = most;
          images = placed.image_count;
          size = omega arith;
          few_taps = let few = is_head.few_taps in omega arith;
          wide = All-map (λ w. (1 ≤ w) × (w ≤ 2)) (λ (t : Tap). pixel_bytes (get_or h.images t.image no_decl).ty) h.taps
              (All-weaker (IsTap (length h.images)) (λ t. (1 ≤ pixel_bytes (get_or h.images t.image no_decl).ty) × (pixel_bytes (get_or h.images t.image no_decl).ty ≤ 2)) (λ t is. let d : IsDecl (get_or h.images t.image no_decl) = All-get_or IsDecl h.images t.image no_decl is.image is_head.images in pixel_one_or_two (get_or h.images t.image no_decl).ty d.ty) h.taps is_head.taps);
          wide_out = wide_out;
          table_low = omega arith;
          known = λ k known. let image = image_is (image_of_tap k) (tap_image k (omega arith)) in image.known;
          entry = λ k known. entry_of k (omega arith);
          inside = λ k known. tap_fits k (omega arith) y inside;
          low = λ k known.
              let known' : k < length h.taps = omega arith in
              let image = image_is (image_of_tap k) (tap_image k known') in
              let image_known = image.known in
              let fits = tap_fits k known' y inside in
              let region = memory-image pictures at (packed 8 entries) scratch output (image_of_tap k) placed.image_count image_known in
              let top : get_or at.images (image_of_tap k) 0 + length (image_bytes pictures (image_of_tap k)) < 2 ^ 31 = subst (λ r. r.start + length r.bytes < 2 ^ 31) region (region_low (suc (suc (image_of_tap k))) (omega arith)) in
              let entry = entry_of k known' in
              omega arith;
          out = ap (λ i. get_or entries i 0) widths_count ∙ out_at;
          inside_out = omega arith;
          low_out = omega arith;
          scratch = ap (λ i. get_or entries i 0) second ∙ get_or-append-add addresses rest 1 0;
          scratch_long = scratch_is ∙ ap (λ c. scratch_bytes vector c slots) (sym widths_count);
          scratch_low = omega arith;
          count = ap (λ i. get_or entries i 0) third ∙ get_or-append-add addresses rest 2 0;
          count_low = omega arith;
          apart = λ kept out kept_long out_long. row_apart h pictures at y scratch output kept out placed kept_long out_long;
        }
