-- Registers that become addresses.
use Rattle.std.proofs.Common.{◌≡◌, ◌≢◌, ℕ, zero, suc, ◌+◌, ◌*◌, ◌/◌, ◌%◌, ◌^◌, ◌<◌, ◌≤◌, List, [], ◌∷◌, length, set, get_or, Bool, false, Some, refl, arith, ap, sym, subst, ◌∙◌, length-append}
use Rattle.std.specs.Prelude.{slice_get, replicate}
use Rattle.std.proofs.lemmas.List.{set-set, set-get_or, get_or-set_same, get_or-set_other, length-set, length-replicate}
use Rattle.pf_machine.specs.declared.registers.RegFile.{RegFile}
use Rattle.pf_machine.specs.declared.memory.Region.{Region}
use Rattle.pf_machine.specs.declared.control.Control.TheVariants.{AddImm, AddReg}
use Rattle.pf_machine.specs.declared.code.Line.{Line}
use Rattle.pf_machine.specs.declared.code.Line.TheVariants.{Control as Controls}
use Rattle.pf_machine.specs.declared.code.Label.{Label}
use Rattle.pf_machine.specs.Meaning.Tables.{Table}
use Rattle.pf_machine.specs.Meaning.MachineSteps.{register_wrapped}
use Rattle.pf_machine.proofs.StepLaws.{wrapped_small}
use Rattle.pf_rows.specs.Steps.RowCode.{pixel_lines, last_pages, scratch_lines}
use Rattle.pf_rows.proofs.Paths.{Stands, stands-front, stands-back, now, Comes, comes-none, comes-on, comes-one}

pub length-pixel_lines : (I O : Type 0) (r width : ℕ) → length (pixel_lines {I = I} {O = O} r width) ≡ width
length-pixel_lines I O r zero = refl
length-pixel_lines I O r (suc width) = ap suc (length-pixel_lines I O r width)

-- instructions of an address in the scratch
abbrev pub last_count : ℕ → ℕ
last_count zero = 0
last_count (suc pages) = 1

abbrev pub scratch_count : ℕ → ℕ
scratch_count offset = 1 + (offset / 4096 / 4095 + last_count (offset / 4096 % 4095))

length-last_pages : (I O : Type 0) (r pages : ℕ) → length (last_pages {I = I} {O = O} r pages) ≡ last_count pages
length-last_pages I O r zero = refl
length-last_pages I O r (suc pages) = refl

pub length-scratch_lines : (I O : Type 0) (r offset : ℕ) → length (scratch_lines {I = I} {O = O} r offset) ≡ scratch_count offset
length-scratch_lines I O r offset =
    let last = length-last_pages I O r (offset / 4096 % 4095) in
    simp (length-append, length-replicate) (omega arith)

at_most_one : (pages : ℕ) → last_count pages ≤ 1
at_most_one zero = omega arith
at_most_one (suc pages) = omega arith

-- near the scratch's beginning they are few
pub scratch_cheap : (offset : ℕ) → offset ≤ 17024 → scratch_count offset ≤ 2
scratch_cheap offset low = let one = at_most_one (offset / 4096 % 4095) in omega arith

module _ {I O : Type 0} (t : Table O) (code : List (Line I O)) (labels : List Label) where
  -- a number is added to the register
  adds : (a r by base : ℕ) (g : List ℕ) (flag : Bool) (f : RegFile) (rs : List Region) → slice_get code a ≡ Some (Controls (AddImm r r false by))
      → get_or g r 0 ≡ base → base + by < 2 ^ 32
      → Comes t code labels 1 (now a g flag f rs) (now (a + 1) (set g r (base + by)) flag f rs)
  adds a r by base g flag f rs there held small =
      let sum : register_wrapped t.target (get_or g r 0 + by) ≡ base + by = ap (λ b. register_wrapped t.target (b + by)) held ∙ wrapped_small t.target (base + by) small in
      comes-one t code labels (Controls (AddImm r r false by)) (now a g flag f rs) (now (a + 1) (set g r (base + by)) flag f rs) there (rw sum refl)

  -- the register goes on by x pixels
  pub comes-pixels : (width a r base x : ℕ) (g : List ℕ) (flag : Bool) (f : RegFile) (rs : List Region) → Stands code a (pixel_lines r width) → r ≢ 3
      → r < length g → get_or g r 0 ≡ base → get_or g 3 0 ≡ x → base + x * width < 2 ^ 32
      → Comes t code labels width (now a g flag f rs) (now (a + width) (set g r (base + x * width)) flag f rs)
  comes-pixels zero a r base x g flag f rs there other inside held pixel small =
      let here : a + 0 ≡ a = omega arith in
      let sum : base + x * 0 ≡ base = omega arith in
      let same : set g r base ≡ g = ap (λ b. set g r b) (sym held) ∙ set-get_or g r 0 in
      rw (here, sum, same) (comes-none t code labels (now a g flag f rs))
  comes-pixels (suc width) a r base x g flag f rs there other inside held pixel small =
      let part : x * suc width ≡ x + x * width = omega arith in
      let sum : register_wrapped t.target (get_or g r 0 + get_or g 3 0) ≡ base + x = ap (λ b. register_wrapped t.target (b + get_or g 3 0)) held ∙ ap (λ b. register_wrapped t.target (base + b)) pixel ∙ wrapped_small t.target (base + x) (omega arith) in
      let one : Comes t code labels 1 (now a g flag f rs) (now (a + 1) (set g r (base + x)) flag f rs) = comes-one t code labels (Controls (AddReg r r 3)) (now a g flag f rs) (now (a + 1) (set g r (base + x)) flag f rs) there.0 (rw sum refl) in
      let rest = comes-pixels width (a + 1) r (base + x) x (set g r (base + x)) flag f rs there.1 other (rw length-set inside) (get_or-set_same g r (base + x) 0 inside)
      (get_or-set_other g r 3 (base + x) 0 (λ same. other (sym same)) ∙ pixel) (omega arith) in
      let both = comes-on t code labels 1 width _ _ _ one rest in
      let count : 1 + width ≡ suc width = omega arith in
      let place : a + 1 + width ≡ a + suc width = omega arith in
      let whole : base + x + x * width ≡ base + x * suc width = omega arith in
      let same : set (set g r (base + x)) r (base + x + x * width) ≡ set g r (base + x * suc width) = set-set g r (base + x) (base + x + x * width) ∙ ap (λ b. set g r b) whole in
      subst (λ c. Comes t code labels c (now a g flag f rs) (now (a + suc width) (set g r (base + x * suc width)) flag f rs)) count
      (subst (λ m. Comes t code labels (1 + width) (now a g flag f rs) (now m (set g r (base + x * suc width)) flag f rs)) place
      (subst (λ l. Comes t code labels (1 + width) (now a g flag f rs) (now (a + 1 + width) l flag f rs)) same both))

  -- so many times the same number is added
  comes-replicate : (count a r by base : ℕ) (g : List ℕ) (flag : Bool) (f : RegFile) (rs : List Region)
      → Stands code a (replicate count (Controls (AddImm r r false by))) → r < length g → get_or g r 0 ≡ base → base + by * count < 2 ^ 32
      → Comes t code labels count (now a g flag f rs) (now (a + count) (set g r (base + by * count)) flag f rs)
  comes-replicate zero a r by base g flag f rs there inside held small =
      let here : a + 0 ≡ a = omega arith in
      let sum : base + by * 0 ≡ base = omega arith in
      let same : set g r base ≡ g = ap (λ b. set g r b) (sym held) ∙ set-get_or g r 0 in
      rw (here, sum, same) (comes-none t code labels (now a g flag f rs))
  comes-replicate (suc count) a r by base g flag f rs there inside held small =
      let part : by * suc count ≡ by + by * count = omega arith in
      let one = adds a r by base g flag f rs there.0 held (omega arith) in
      let rest = comes-replicate count (a + 1) r by (base + by) (set g r (base + by)) flag f rs there.1 (rw length-set inside) (get_or-set_same g r (base + by) 0 inside) (omega arith) in
      let both = comes-on t code labels 1 count _ _ _ one rest in
      let steps : 1 + count ≡ suc count = omega arith in
      let place : a + 1 + count ≡ a + suc count = omega arith in
      let whole : base + by + by * count ≡ base + by * suc count = omega arith in
      let same : set (set g r (base + by)) r (base + by + by * count) ≡ set g r (base + by * suc count) = set-set g r (base + by) (base + by + by * count) ∙ ap (λ b. set g r b) whole in
      subst (λ c. Comes t code labels c (now a g flag f rs) (now (a + suc count) (set g r (base + by * suc count)) flag f rs)) steps
      (subst (λ m. Comes t code labels (1 + count) (now a g flag f rs) (now m (set g r (base + by * suc count)) flag f rs)) place
      (subst (λ l. Comes t code labels (1 + count) (now a g flag f rs) (now (a + 1 + count) l flag f rs)) same both))

  comes-last : (pages a r base : ℕ) (g : List ℕ) (flag : Bool) (f : RegFile) (rs : List Region) → Stands code a (last_pages r pages) → get_or g r 0 ≡ base
      → base + 4096 * pages < 2 ^ 32
      → Comes t code labels (last_count pages) (now a g flag f rs) (now (a + last_count pages) (set g r (base + 4096 * pages)) flag f rs)
  comes-last zero a r base g flag f rs there held small =
      let here : a + 0 ≡ a = omega arith in
      let sum : base + 4096 * 0 ≡ base = omega arith in
      let same : set g r base ≡ g = ap (λ b. set g r b) (sym held) ∙ set-get_or g r 0 in
      rw (here, sum, same) (comes-none t code labels (now a g flag f rs))
  comes-last (suc pages) a r base g flag f rs there held small = adds a r (4096 * suc pages) base g flag f rs there.0 held small

  -- the register becomes the address of a byte of the scratch
  pub comes-scratch : (a r scratch offset : ℕ) (g : List ℕ) (flag : Bool) (f : RegFile) (rs : List Region) → Stands code a (scratch_lines r offset)
      → r < length g → get_or g 2 0 ≡ scratch → scratch + offset < 2 ^ 32
      → Comes t code labels (scratch_count offset) (now a g flag f rs) (now (a + scratch_count offset) (set g r (scratch + offset)) flag f rs)
  comes-scratch a r scratch offset g flag f rs there inside held small =
      let low = offset % 4096 in
      let pages = offset / 4096 in
      let many = pages / 4095 in
      let left = pages % 4095 in
      let first_line : Line I O = Controls (AddImm r 2 false low) in
      let front : List (Line I O) = replicate many (Controls (AddImm r r false 16773120)) in
      let last : List (Line I O) = last_pages r left in
      let split : offset ≡ low + (16773120 * many + 4096 * left) = omega arith in
      let sum : register_wrapped t.target (get_or g 2 0 + low) ≡ scratch + low = ap (λ b. register_wrapped t.target (b + low)) held ∙ wrapped_small t.target (scratch + low) (omega arith) in
      let g' = set g r (scratch + low) in
      let inside' : r < length g' = rw length-set inside in
      let g'' = set g' r (scratch + low + 16773120 * many) in
      let inside'' : r < length g'' = rw length-set inside' in
      let one : Comes t code labels 1 (now a g flag f rs) (now (a + 1) g' flag f rs) = comes-one t code labels first_line (now a g flag f rs) (now (a + 1) g' flag f rs) there.0 (rw sum refl) in
      let two = comes-replicate many (a + 1) r 16773120 (scratch + low) g' flag f rs (stands-front code (a + 1) front last there.1) inside' (get_or-set_same g r (scratch + low) 0 inside) (omega arith) in
      let at_last : Stands code (a + 1 + length front) last = stands-back code (a + 1) front last there.1 in
      let at_last' : Stands code (a + 1 + many) last = subst (λ m. Stands code (a + 1 + m) last) (length-replicate many (Controls (AddImm r r false 16773120))) at_last in
      let end = last_count left in
      let three = comes-last left (a + 1 + many) r (scratch + low + 16773120 * many) g'' flag f rs at_last' (get_or-set_same g' r (scratch + low + 16773120 * many) 0 inside') (omega arith) in
      let all = comes-on t code labels 1 (many + end) _ _ _ one (comes-on t code labels many end _ _ _ two three) in
      let place : a + 1 + many + end ≡ a + scratch_count offset = omega arith in
      let whole : scratch + low + 16773120 * many + 4096 * left ≡ scratch + offset = omega arith in
      let same : set g'' r (scratch + low + 16773120 * many + 4096 * left) ≡ set g r (scratch + offset) =
      set-set g' r (scratch + low + 16773120 * many) (scratch + low + 16773120 * many + 4096 * left) ∙ set-set g r (scratch + low) (scratch + low + 16773120 * many + 4096 * left) ∙ ap (λ b. set g r b) whole in
      subst (λ m. Comes t code labels (scratch_count offset) (now a g flag f rs) (now m (set g r (scratch + offset)) flag f rs)) place
      (subst (λ l. Comes t code labels (scratch_count offset) (now a g flag f rs) (now (a + 1 + many + end) l flag f rs)) same all)
