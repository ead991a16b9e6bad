-- The block of the lesser of two taps: what it makes of the taps' bytes, and that a row's program may have it.
use Rattle.std.proofs.Common.{◌≡◌, ℕ, zero, suc, ◌+◌, ◌-◌, ◌*◌, ◌%◌, ◌<◌, List, [], ◌∷◌, length, map, take, drop, get_or, All, refl, arith, ap, sym, subst, ◌∙◌, min, rules, Bool}
use Rattle.std.specs.Prelude.{ℤ, pos, zip}
use Rattle.std.specs.Int.{int_min}
use Rattle.std.specs.List.{concat}
use Rattle.std.proofs.Math.Nat.{mod-eq_of_lt, mod-lt}
use Rattle.std.proofs.lemmas.Int.{ints, int_min_is}
use Rattle.std.proofs.lemmas.List.{get_or-map, length-map, append-nil, drop-take, take-take}
use Rattle.std.proofs.lemmas.List.Elements.{All-get_or, All-weaker, All-from_recursion, All-head, All-tail}
use Rattle.std.proofs.lemmas.Slice.Zip.{get_or-zip, length-zip}
use Rattle.pf_ints.specs.Meaning.Images.{Picture, IsPicture}
use Rattle.pf_ints.specs.Meaning.Lanes.{IsIn as IsNumber}
use Rattle.pf_ints.proofs.LaneLaws.{wrapped_same}
use Rattle.pf_values.specs.declared.op.Op.TheVariants.{Min}
use Rattle.pf_values.specs.declared.term.Env.{Env}
use Rattle.pf_values.specs.declared.term.Leaf.TheVariants.{Tap as TapLeaf}
use Rattle.pf_values.specs.declared.term.Term.TheVariants.{Leaf, rolls-Leaf, rolls-Node}
use Rattle.pf_values.specs.declared.term.Term.TheOpen.Term-F.{Leaf as LeafLayer, Node as NodeLayer}
use Rattle.pf_values.specs.declared.term.Term.TheFolds.{fold-roll-Term}
use Rattle.pf_values.specs.Meaning.Terms.{Val, value_step}
use Rattle.pf_values.specs.Meaning.NamedTerms.{no_tap}
use Rattle.pf_values.specs.Meaning.Kernels.{Keeps, KeepsRange, no_picture, out_value, tap_value, tap_values, no_decl}
use Rattle.pf_machine.specs.declared.program.Head.{Head}
use Rattle.pf_machine.specs.declared.registers.RegFile.{RegFile}
use Rattle.pf_machine.specs.Meaning.Blocks.{BVal, IsClean, IsWithin, pixel_part, IsLanewise}
use Rattle.pf_machine.specs.Meaning.Bytes.{bytes}
use Rattle.pf_machine.specs.Meaning.Heads.{IsTap}
use Rattle.pf_machine.specs.Meaning.Programs.{ProgramOf}
use Rattle.pf_machine.specs.Meaning.Runs.{pixel_bytes}
use Rattle.pf_machine.specs.Meaning.Tables.{IsFile}
use Rattle.pf_machine.proofs.ByteLaws.{number-bytes_rest, bytes-mod}
use Rattle.pf_lanes.specs.Meaning.Lanes.{lane, made, residue}
use Rattle.pf_lanes.proofs.LaneLaws.{part-made}
use Rattle.pf_tables.specs.declared.instruction.Instruction.{Instruction}
use Rattle.pf_neon.specs.Meaning.Rows.{row_at}
use Rattle.pf_neon.specs.Meaning.Neon.{table, IsNeonInstruction}
use Rattle.pf_rows.specs.Meaning.BlockRows.{tap_widths, tap_pixel, IsRowBlock, IsBlockItem, LeavesLanes, StoresEach}
use Rattle.pf_select.specs.Meaning.MinOfTaps.{byte_type, min_term, min_source, least, min_block, HasTaps, LeavesMin}

-- ---- the instruction is one of the table
pub is_listed : IsNeonInstruction least
unfolding row_at
is_listed = record { inside = omega arith; shape = refl; numbers = refl }

-- ---- what the block stores
abbrev tap_part : List (List ℕ) → ℕ → List ℕ
tap_part blocks k = take 16 (drop (16 * 0) (get_or blocks k []))

-- the lesser of two lanes, as the instruction's row has it
abbrev lesser : (a b : List ℕ) → ℕ → ℤ
lesser a b i = int_min (lane byte_type a i) (lane byte_type b i)

abbrev stored : List (List ℕ) → (first second : ℕ) → List ℕ
stored blocks first second = made byte_type 16 (lesser (tap_part blocks first) (tap_part blocks second))

block_made : (vectors : List (List ℕ)) (k : ℕ) (q : List Bool) (first second : ℕ) (blocks kept : List (List ℕ)) → length vectors ≡ 32
    → BVal table 1 (min_block first second) blocks (record { vectors = vectors; k = k; q = q }) kept ≡ stored blocks first second ∷ []
unfolding row_at
block_made [] k q first second blocks kept long = absurd (omega arith)
block_made (v ∷ []) k q first second blocks kept long = absurd (omega arith)
block_made (v ∷ w ∷ more) k q first second blocks kept long = refl

stores : (first second : ℕ) (blocks kept : List (List ℕ)) (file : RegFile) → IsFile table 32 file → concat (BVal table 1 (min_block first second) blocks file kept) ≡ stored blocks first second
stores first second blocks kept file is = ap concat (block_made file.vectors file.k file.q first second blocks kept is.count) ∙ append-nil (stored blocks first second)

-- ---- lane by lane
byte_in : (n : ℕ) → n < 256 → IsNumber byte_type (pos n)
byte_in n small = record { low = omega (arith, ints); high = omega (arith, ints) }

part_front : (tap : List ℕ) (j : ℕ) → j < 16 → take 1 (drop (1 * j) (take 16 tap)) ≡ take 1 (drop (1 * j) tap)
part_front tap j inside =
    let same : 1 * j ≡ j = omega arith in
    let whole : 16 ≡ j + (16 - j) = omega arith in
    rw (same, whole, drop-take j (16 - j) tap) (take-take 1 (16 - j) (drop j tap) (omega arith))

-- the number of a lane, where the tap's pixel there has this byte
lane_is : (blocks : List (List ℕ)) (k j n : ℕ) → j < 16 → pixel_part 1 j (get_or blocks k []) ≡ bytes 1 n → lane byte_type (tap_part blocks k) j ≡ pos (n % 256)
unfolding lane
lane_is blocks k j n inside is =
    let tap = get_or blocks k [] in
    let front : take 1 (drop (1 * j) (take 16 tap)) ≡ take 1 (drop (1 * j) tap) = part_front tap j inside in
    rw (front, is, number-bytes_rest 1 n) (wrapped_same byte_type (pos (n % 256)) (byte_in (n % 256) (mod-lt n (omega arith))))

int_min-pos : (a b : ℕ) → int_min (pos a) (pos b) ≡ pos (min a b)
int_min-pos a b = omega (arith, ints, int_min_is (pos a) (pos b))

-- the lesser of two of the numbers, of a byte
abbrev pub lesser_of : (first second : ℕ) → List ℕ → ℕ
lesser_of first second numbers = min (get_or numbers first 0 % 256) (get_or numbers second 0 % 256)

stored_at : (blocks : List (List ℕ)) (first second j m n : ℕ) → j < 16 → lane byte_type (tap_part blocks first) j ≡ pos m → lane byte_type (tap_part blocks second) j ≡ pos n
    → pixel_part 1 j (stored blocks first second) ≡ bytes 1 (min m n)
stored_at blocks first second j m n inside left right =
    let f = lesser (tap_part blocks first) (tap_part blocks second) in
    let value : f j ≡ pos (min m n) = rw (left, right) (int_min-pos m n) in
    part-made byte_type 16 f j inside ∙ ap (λ x. bytes 1 (residue byte_type x)) value ∙ bytes-mod 1 (min m n)

-- ---- a row's program may have the block
clean : (widths : List ℕ) (first second : ℕ) → IsClean table widths 32 0 1 (min_block first second)
clean widths first second = record {
  within = All-from_recursion (IsWithin table 32 0) (min_block first second) (search rules);
  same = λ blocks f g kept other taps f_is g_is kept_are other_are. block_made f.vectors f.k f.q first second blocks kept f_is.count ∙ sym (block_made g.vectors g.k g.q first second blocks other g_is.count);
}

steps_of : (widths : List ℕ) (first second : ℕ) → first < length widths → second < length widths → get_or widths first 0 ≡ 1 → get_or widths second 0 ≡ 1 → All (IsBlockItem widths 1) (min_block first second)
steps_of widths first second left right left_width right_width =
    let left_step : (first < length widths) × (0 < get_or widths first 0) = (left, omega arith) in
    let right_step : (second < length widths) × (0 < get_or widths second 0) = (right, omega arith) in
    All-from_recursion (IsBlockItem widths 1) (min_block first second) (left_step, (right_step, (tt, (omega arith, tt))))

stores_each : (first second : ℕ) → StoresEach 1 (min_block first second)
stores_each first second zero inside = refl
stores_each first second (suc part) inside = absurd (omega arith)

-- ---- a head of images of u8
module _ (h : Head) (first second : ℕ) (has : HasTaps h first second) where
  one_byte : pixel_bytes h.out_ty ≡ 1
  one_byte = ap pixel_bytes has.out_ty

  tap_image : (k : ℕ) → k < length h.taps → (get_or h.taps k no_tap).image < length h.images
  tap_image k known = let t : IsTap (length h.images) (get_or h.taps k no_tap) = All-get_or (IsTap (length h.images)) h.taps k no_tap known has.head.taps in t.image

  tap_type : (k : ℕ) → k < length h.taps → (get_or h.images (get_or h.taps k no_tap).image no_decl).ty ≡ byte_type
  tap_type k known = All-get_or (λ t. (get_or h.images t.image no_decl).ty ≡ byte_type) h.taps k no_tap known has.taps

  tap_width : (k : ℕ) → k < length h.taps → get_or (tap_widths h) k 0 ≡ 1
  tap_width k known =
      get_or-map (λ t. pixel_bytes (get_or h.images t.image no_decl).ty) h.taps k no_tap 0 known
      ∙ ap pixel_bytes (tap_type k known)

  length-widths : length (tap_widths h) ≡ length h.taps
  length-widths = length-map h.taps (λ t. pixel_bytes (get_or h.images t.image no_decl).ty)

  pub is_row_block : IsRowBlock table h 0 (min_block first second)
  is_row_block =
      let left = has.first_tap in
      let right = has.second_tap in
      let count = length-widths in
      let one = sym one_byte in
      record {
        head = has.head;
        scratch = has.scratch;
        clean = subst (λ w. IsClean table (tap_widths h) 32 0 w (min_block first second)) one (clean (tap_widths h) first second);
        steps = subst (λ w. All (IsBlockItem (tap_widths h) w) (min_block first second)) one (steps_of (tap_widths h) first second (omega arith) (omega arith) (tap_width first left) (tap_width second right));
        stores = subst (λ w. StoresEach w (min_block first second)) one (stores_each first second);
      }

  lanewise_one : IsLanewise table (tap_widths h) 32 0 1 (min_block first second) (lesser_of first second)
  lanewise_one = record {
    each = λ blocks numbers file kept j taps is kept_are inside count pixels.
        let widths = length-widths in
        let one : (k : ℕ) → k < length h.taps → lane byte_type (tap_part blocks k) j ≡ pos (get_or numbers k 0 % 256) = λ k known.
        let there : k < length (tap_widths h) = omega arith in
        lane_is blocks k j (get_or numbers k 0) inside (subst (λ w. pixel_part w j (get_or blocks k []) ≡ bytes w (get_or numbers k 0)) (tap_width k known) (pixels k there)) in
        ap (pixel_part 1 j) (stores first second blocks kept file is)
        ∙ stored_at blocks first second j (get_or numbers first 0 % 256) (get_or numbers second 0 % 256) inside (one first has.first_tap) (one second has.second_tap);
  }

  pub is_lanewise : IsLanewise table (tap_widths h) 32 0 (pixel_bytes h.out_ty) (min_block first second) (lesser_of first second)
  is_lanewise = subst (λ w. IsLanewise table (tap_widths h) 32 0 w (min_block first second) (lesser_of first second)) (sym one_byte) lanewise_one

-- ---- what the kernel says of a pixel
Val-tap : (env : Env) (n : ℕ) → Val env (Leaf (TapLeaf n) byte_type) ≡ get_or env.taps n (pos 0)
Val-tap env n = ap (Val env) (sym (rolls-Leaf (TapLeaf n) byte_type)) ∙ fold-roll-Term ℤ (value_step env) (LeafLayer (TapLeaf n) byte_type)

Val-least : (env : Env) (first second : ℕ) → Val env (min_term byte_type first second) ≡ int_min (get_or env.taps first (pos 0)) (get_or env.taps second (pos 0))
Val-least env first second =
    let args = Leaf (TapLeaf first) byte_type ∷ Leaf (TapLeaf second) byte_type ∷ [] in
    ap (Val env) (sym (rolls-Node Min byte_type 0 args)) ∙ fold-roll-Term ℤ (value_step env) (NodeLayer Min byte_type 0 args)
    ∙ rw (Val-tap env first, Val-tap env second) refl

-- ---- the pixels of the images are bytes
below : (n : ℕ) → IsNumber byte_type (pos n) → n < 256
below n is = let top = is.high in omega (arith, ints)

get_or_below : (bound : ℕ) (ns : List ℕ) (k : ℕ) → 0 < bound → All (λ n. n < bound) ns → get_or ns k 0 < bound
get_or_below bound [] k some small = some
get_or_below bound (n ∷ ns) zero some small = All-head (λ n. n < bound) n ns small
get_or_below bound (n ∷ ns) (suc k) some small = get_or_below bound ns k some (All-tail (λ n. n < bound) n ns small)

module _ (h : Head) (first second : ℕ) (has : HasTaps h first second) (pictures : List Picture) (keeps : Keeps (min_source h first second) pictures) where
  image_below : (k : ℕ) → k < length h.images → (get_or h.images k no_decl).ty ≡ byte_type → All (λ n. n < 256) (get_or pictures k no_picture).pixels
  image_below k inside same =
      let p = get_or pictures k no_picture in
      let known : k < length pictures = omega (arith, keeps.count) in
      let picture : IsPicture p = All-get_or IsPicture pictures k no_picture known keeps.limits in
      let declared = get_or h.images k no_decl in
      let pair : get_or (zip h.images pictures) k (no_decl, no_picture) ≡ (declared, p) = get_or-zip h.images pictures k (no_decl, no_picture) inside known in
      let kept : KeepsRange declared p = subst (λ q. KeepsRange q.0 q.1) pair (All-get_or (λ q. KeepsRange q.0 q.1) (zip h.images pictures) k (no_decl, no_picture) (omega (arith, length-zip h.images pictures)) keeps.each) in
      All-weaker (λ n. IsNumber p.ty (pos n)) (λ n. n < 256) (λ n number. below n (subst (λ t. IsNumber t (pos n)) (kept.ty ∙ same) number)) p.pixels picture.each

  module _ (x y : ℕ) where
    abbrev numbers : List ℕ
    numbers = map (tap_pixel h.taps pictures x y) h.taps

    abbrev values : List ℤ
    values = tap_values h.taps pictures x y

    -- a tap's number, in both lists of numbers
    number_is : (k : ℕ) → k < length h.taps → get_or values k (pos 0) ≡ pos (get_or numbers k 0 % 256)
    number_is k known =
        let t = get_or h.taps k no_tap in
        let pixel = tap_pixel h.taps pictures x y t in
        let small : pixel < 256 = get_or_below 256 (get_or pictures t.image no_picture).pixels _ (omega arith) (image_below t.image (tap_image h first second has k known) (tap_type h first second has k known)) in
        let held : get_or numbers k 0 ≡ pixel = get_or-map (tap_pixel h.taps pictures x y) h.taps k no_tap 0 known in
        let rest : pixel ≡ get_or numbers k 0 % 256 = sym (mod-eq_of_lt small) ∙ ap (λ n. n % 256) (sym held) in
        get_or-map (tap_value h.taps pictures x y) h.taps k no_tap (pos 0) known ∙ ap pos rest

    pub value_is : pos (lesser_of first second numbers) ≡ out_value (min_source h first second) pictures x y
    value_is =
        let env : Env = record { taps = values; defs = [] } in
        sym (Val-least env first second ∙ ap (λ a. int_min a (get_or values second (pos 0))) (number_is first has.first_tap) ∙ ap (λ b. int_min (pos (get_or numbers first 0 % 256)) b) (number_is second has.second_tap) ∙ int_min-pos _ _)

-- ---- the block's program
pub leaves_least : {I : Type 0} (p : ProgramOf I Instruction) (h : Head) (first second : ℕ) → p.head ≡ h → HasTaps h first second → LeavesLanes table 0 (min_block first second) p → LeavesMin p first second
leaves_least p h first second is has lanes pictures keeps =
    let here : HasTaps p.head first second = subst (λ g. HasTaps g first second) (sym is) has in
    lanes (lesser_of first second) (is_lanewise p.head first second here) (min_source p.head first second) pictures refl refl (sym here.out_ty) keeps (λ x y wide high. value_is p.head first second here pictures keeps x y)
