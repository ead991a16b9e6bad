-- Pixels that are copied one by one.
use Rattle.std.proofs.Common.{◌≡◌, ℕ, zero, suc, ◌+◌, ◌-◌, ◌*◌, ◌^◌, ◌<◌, ◌≤◌, List, [], ◌∷◌, ◌++◌, length, Bool, true, false, Some, refl, arith, ltb, ap, subst, ◌∙◌, length-append}
use Rattle.std.specs.Prelude.{slice_get}
use Rattle.std.proofs.Math.Nat.{mul-le-mul_right}
use Rattle.std.proofs.lemmas.Bool.{lt-ltb, le-ltb}
use Rattle.pf_machine.specs.declared.registers.RegFile.{RegFile}
use Rattle.pf_machine.specs.declared.memory.Region.{Region}
use Rattle.pf_machine.specs.declared.control.Control.TheVariants.{StorePtr, AddImm, LoadByte, LoadHalf, StoreByte, StoreHalf, Compare, Below}
use Rattle.pf_machine.specs.declared.code.Line.{Line}
use Rattle.pf_machine.specs.declared.code.Line.TheVariants.{Control as Controls}
use Rattle.pf_machine.specs.declared.code.Label.{Label}
use Rattle.pf_machine.specs.Meaning.Bytes.{number, bytes}
use Rattle.pf_machine.specs.Meaning.Memory.{loaded, stored}
use Rattle.pf_machine.specs.Meaning.Tables.{Table}
use Rattle.pf_machine.specs.Meaning.MachineSteps.{register_wrapped, pointer_bytes, place_of}
use Rattle.pf_machine.proofs.StepLaws.{wrapped_small}
use Rattle.pf_rows.specs.Steps.RowCode.{pixel_lines, load_value, store_value, copy_turn}
use Rattle.pf_rows.proofs.Paths.{Stands, stands-front, stands-back, now, Comes, comes-on, comes-one}
use Rattle.pf_rows.proofs.Pointers.{length-pixel_lines, comes-pixels}

le_of : (x n : ℕ) → x < n → x ≤ n
le_of x n less = omega arith

count_more : (c m : ℕ) → c * suc m ≡ c + c * m
count_more c m = omega arith

-- the parts of a copy's loop
module _ {I O : Type 0} (code : List (Line I O)) (from to : List (Line I O)) (a width : ℕ) (label : List ℕ) (there : Stands code a (copy_turn from to width label)) where
  pub from_stands : Stands code a from
  from_stands =
      let rest : List (Line I O) = pixel_lines 5 width ++ (load_value width ∷ (to ++ (pixel_lines 7 width ++ (store_value width ∷ Controls (AddImm 3 3 false 1) ∷ Controls (Compare 3 1) ∷ Controls (Below label) ∷ [])))) in
      stands-front code a from rest there

  pub to_stands : Stands code (a + length from + width + 1) to
  to_stands =
      let last : List (Line I O) = pixel_lines 7 width ++ (store_value width ∷ Controls (AddImm 3 3 false 1) ∷ Controls (Compare 3 1) ∷ Controls (Below label) ∷ []) in
      let rest : List (Line I O) = load_value width ∷ (to ++ last) in
      let at2 = stands-back code a from (pixel_lines 5 width ++ rest) there in
      let at3 : Stands code (a + length from + width) rest = subst (λ m. Stands code (a + length from + m) rest) (length-pixel_lines I O 5 width) (stands-back code (a + length from) (pixel_lines 5 width) rest at2) in
      stands-front code (a + length from + width + 1) to last at3.1

pub length-copy_turn : (I O : Type 0) (from to : List (Line I O)) (width : ℕ) (label : List ℕ)
    → length (copy_turn from to width label) ≡ length from + (width + (1 + (length to + (width + 4))))
length-copy_turn I O from to width label =
    let end : List (Line I O) = store_value width ∷ Controls (AddImm 3 3 false 1) ∷ Controls (Compare 3 1) ∷ Controls (Below label) ∷ [] in
    let last : List (Line I O) = pixel_lines 7 width ++ end in
    let rest : List (Line I O) = load_value width ∷ (to ++ last) in
    let one : length last ≡ width + 4 = length-append (pixel_lines 7 width) end ∙ ap (λ m. m + 4) (length-pixel_lines I O 7 width) in
    let two : length rest ≡ suc (length to + length last) = ap suc (length-append to last) in
    let three : length (pixel_lines {I = I} {O = O} 5 width ++ rest) ≡ width + length rest = length-append (pixel_lines 5 width) rest ∙ ap (λ m. m + length rest) (length-pixel_lines I O 5 width) in
    length-append from (pixel_lines 5 width ++ rest) ∙ omega arith

module _ {I O : Type 0} (t : Table O) (code : List (Line I O)) (labels : List Label) where
  -- a pixel is loaded
  value_loaded : (width a tb n s x u p v e : ℕ) (flag : Bool) (f : RegFile) (rs : List Region) (held : List ℕ) → 1 ≤ width → width ≤ 2
      → slice_get code a ≡ Some (load_value width) → loaded rs p width ≡ Some held
      → Comes t code labels 1 (now a (tb ∷ n ∷ s ∷ x ∷ u ∷ p ∷ v ∷ e ∷ []) flag f rs) (now (a + 1) (tb ∷ n ∷ s ∷ x ∷ u ∷ p ∷ number held ∷ e ∷ []) flag f rs)
  value_loaded zero a tb n s x u p v e flag f rs held some few there load = absurd (omega arith)
  value_loaded (suc zero) a tb n s x u p v e flag f rs held some few there load = comes-one t code labels (Controls (LoadByte 6 5)) _ _ there (rw load refl)
  value_loaded (suc (suc zero)) a tb n s x u p v e flag f rs held some few there load = comes-one t code labels (Controls (LoadHalf 6 5)) _ _ there (rw load refl)
  value_loaded (suc (suc (suc width))) a tb n s x u p v e flag f rs held some few there load = absurd (omega arith)

  -- a pixel is stored
  value_stored : (width a tb n s x u p v e : ℕ) (flag : Bool) (f : RegFile) (rs next : List Region) → 1 ≤ width → width ≤ 2
      → slice_get code a ≡ Some (store_value width) → stored rs e (bytes width v) ≡ Some next
      → Comes t code labels 1 (now a (tb ∷ n ∷ s ∷ x ∷ u ∷ p ∷ v ∷ e ∷ []) flag f rs) (now (a + 1) (tb ∷ n ∷ s ∷ x ∷ u ∷ p ∷ v ∷ e ∷ []) flag f next)
  value_stored zero a tb n s x u p v e flag f rs next some few there store = absurd (omega arith)
  value_stored (suc zero) a tb n s x u p v e flag f rs next some few there store = comes-one t code labels (Controls (StoreByte 7 6)) _ _ there (rw store refl)
  value_stored (suc (suc zero)) a tb n s x u p v e flag f rs next some few there store = comes-one t code labels (Controls (StoreHalf 7 6)) _ _ there (rw store refl)
  value_stored (suc (suc (suc width))) a tb n s x u p v e flag f rs next some few there store = absurd (omega arith)

  -- an address is kept in the scratch's table
  pub pointer_stored : (k a tb n s x u p v e : ℕ) (flag : Bool) (f : RegFile) (rs next : List Region) → s + 8 * k < 2 ^ 32
      → slice_get code a ≡ Some (Controls (StorePtr 2 k 7)) → stored rs (s + 8 * k) (bytes (pointer_bytes t.target) e) ≡ Some next
      → Comes t code labels 1 (now a (tb ∷ n ∷ s ∷ x ∷ u ∷ p ∷ v ∷ e ∷ []) flag f rs) (now (a + 1) (tb ∷ n ∷ s ∷ x ∷ u ∷ p ∷ v ∷ e ∷ []) flag f next)
  pointer_stored k a tb n s x u p v e flag f rs next low there store =
      let small : register_wrapped t.target (s + 8 * k) ≡ s + 8 * k = wrapped_small t.target (s + 8 * k) low in
      comes-one t code labels (Controls (StorePtr 2 k 7)) _ _ there (rw (small, store) refl)

  -- A loop that copies n pixels of so many bytes from one address to another: memory before and after each, and the instructions that set p and e.
  pub record Copy (from to : List (Line I O)) (a tb n s u width source target : ℕ) (f : RegFile) (rs : ℕ → List Region) (held : ℕ → List ℕ) : Type 0 where
    pub some : 1 ≤ width
    pub few : width ≤ 2
    pub count_low : n < 2 ^ 31
    pub source_low : source + n * width < 2 ^ 32
    pub target_low : target + n * width < 2 ^ 32
    pub sets_p : (x p v e : ℕ) (flag : Bool) → x < n
        → Comes t code labels (length from) (now a (tb ∷ n ∷ s ∷ x ∷ u ∷ p ∷ v ∷ e ∷ []) flag f (rs x)) (now (a + length from) (tb ∷ n ∷ s ∷ x ∷ u ∷ source ∷ v ∷ e ∷ []) flag f (rs x))
    pub sets_e : (x p v e : ℕ) (flag : Bool) → x < n
        → Comes t code labels (length to) (now (a + length from + width + 1) (tb ∷ n ∷ s ∷ x ∷ u ∷ p ∷ v ∷ e ∷ []) flag f (rs x)) (now (a + length from + width + 1 + length to) (tb ∷ n ∷ s ∷ x ∷ u ∷ p ∷ v ∷ target ∷ []) flag f (rs x))
    pub load : (x : ℕ) → x < n → loaded (rs x) (source + x * width) width ≡ Some (held x)
    pub store : (x : ℕ) → x < n → stored (rs x) (target + x * width) (bytes width (number (held x))) ≡ Some (rs (suc x))

  -- steps of a pixel
  abbrev pub turn_count : (from to : List (Line I O)) → ℕ → ℕ
  turn_count from to width = length from + (width + (1 + (length to + (width + 4))))

  module _ (from to : List (Line I O)) (a tb n s u width source target : ℕ) (f : RegFile) (rs : ℕ → List Region) (held : ℕ → List ℕ) (label : List ℕ) (copy : Copy from to a tb n s u width source target f rs held) (there : Stands code a (copy_turn from to width label)) (to_label : place_of labels (length code) label ≡ a) where
    -- a pixel, up to the choice
    pixel_copied : (x p v e : ℕ) (flag : Bool) → x < n
        → Comes t code labels (turn_count from to width - 1) (now a (tb ∷ n ∷ s ∷ x ∷ u ∷ p ∷ v ∷ e ∷ []) flag f (rs x))
        (now (a + length from + width + 1 + length to + width + 1 + 1 + 1) (tb ∷ n ∷ s ∷ (x + 1) ∷ u ∷ (source + x * width) ∷ number (held x) ∷ (target + x * width) ∷ []) (ltb (x + 1) n) f (rs (suc x)))
    pixel_copied x p v e flag inside =
        let lf = length from in
        let lt = length to in
        let low = copy.count_low in
        let room : x * width ≤ n * width = mul-le-mul_right width (le_of x n inside) in
        let source_low = copy.source_low in
        let target_low = copy.target_low in
        let last : List (Line I O) = store_value width ∷ Controls (AddImm 3 3 false 1) ∷ Controls (Compare 3 1) ∷ Controls (Below label) ∷ [] in
        let part5 : List (Line I O) = pixel_lines 7 width ++ last in
        let part4 : List (Line I O) = to ++ part5 in
        let part3 : List (Line I O) = load_value width ∷ part4 in
        let part2 : List (Line I O) = pixel_lines 5 width ++ part3 in
        let at2 = stands-back code a from part2 there in
        let at2_front = stands-front code (a + lf) (pixel_lines 5 width) part3 at2 in
        let at3 : Stands code (a + lf + width) part3 = subst (λ m. Stands code (a + lf + m) part3) (length-pixel_lines I O 5 width) (stands-back code (a + lf) (pixel_lines 5 width) part3 at2) in
        let at4 : Stands code (a + lf + width + 1) part4 = at3.1 in
        let at5 : Stands code (a + lf + width + 1 + lt) part5 = stands-back code (a + lf + width + 1) to part5 at4 in
        let at5_front = stands-front code (a + lf + width + 1 + lt) (pixel_lines 7 width) last at5 in
        let at6 : Stands code (a + lf + width + 1 + lt + width) last = subst (λ m. Stands code (a + lf + width + 1 + lt + m) last) (length-pixel_lines I O 7 width) (stands-back code (a + lf + width + 1 + lt) (pixel_lines 7 width) last at5) in
        let one = copy.sets_p x p v e flag inside in
        let two = comes-pixels t code labels width (a + lf) 5 source x (tb ∷ n ∷ s ∷ x ∷ u ∷ source ∷ v ∷ e ∷ []) flag f (rs x) at2_front (omega arith) (omega arith) refl refl (omega arith) in
        let three = value_loaded width (a + lf + width) tb n s x u (source + x * width) v e flag f (rs x) (held x) copy.some copy.few at3.0 (copy.load x inside) in
        let four = copy.sets_e x (source + x * width) (number (held x)) e flag inside in
        let five = comes-pixels t code labels width (a + lf + width + 1 + lt) 7 target x (tb ∷ n ∷ s ∷ x ∷ u ∷ (source + x * width) ∷ number (held x) ∷ target ∷ []) flag f (rs x) at5_front (omega arith) (omega arith) refl refl (omega arith) in
        let six = value_stored width (a + lf + width + 1 + lt + width) tb n s x u (source + x * width) (number (held x)) (target + x * width) flag f (rs x) (rs (suc x)) copy.some copy.few at6.0 (copy.store x inside) in
        let next : register_wrapped t.target (x + 1) ≡ x + 1 = wrapped_small t.target (x + 1) (omega arith) in
        let base = a + lf + width + 1 + lt + width + 1 in
        let seven : Comes t code labels 1 (now base (tb ∷ n ∷ s ∷ x ∷ u ∷ (source + x * width) ∷ number (held x) ∷ (target + x * width) ∷ []) flag f (rs (suc x))) (now (base + 1) (tb ∷ n ∷ s ∷ (x + 1) ∷ u ∷ (source + x * width) ∷ number (held x) ∷ (target + x * width) ∷ []) flag f (rs (suc x))) =
        comes-one t code labels (Controls (AddImm 3 3 false 1)) _ _ at6.1.0 (rw next refl) in
        let eight : Comes t code labels 1 (now (base + 1) (tb ∷ n ∷ s ∷ (x + 1) ∷ u ∷ (source + x * width) ∷ number (held x) ∷ (target + x * width) ∷ []) flag f (rs (suc x))) (now (base + 1 + 1) (tb ∷ n ∷ s ∷ (x + 1) ∷ u ∷ (source + x * width) ∷ number (held x) ∷ (target + x * width) ∷ []) (ltb (x + 1) n) f (rs (suc x))) =
        comes-one t code labels (Controls (Compare 3 1)) _ _ at6.1.1.0 refl in
        let all = comes-on t code labels lf (width + (1 + (lt + (width + 3)))) _ _ _ one
        (comes-on t code labels width (1 + (lt + (width + 3))) _ _ _ two
        (comes-on t code labels 1 (lt + (width + 3)) _ _ _ three
        (comes-on t code labels lt (width + 3) _ _ _ four
        (comes-on t code labels width 3 _ _ _ five
        (comes-on t code labels 1 2 _ _ _ six (comes-on t code labels 1 1 _ _ _ seven eight)))))) in
        let steps : lf + (width + (1 + (lt + (width + 3)))) ≡ turn_count from to width - 1 = omega arith in
        subst (λ c. Comes t code labels c (now a (tb ∷ n ∷ s ∷ x ∷ u ∷ p ∷ v ∷ e ∷ []) flag f (rs x)) (now (base + 1 + 1) (tb ∷ n ∷ s ∷ (x + 1) ∷ u ∷ (source + x * width) ∷ number (held x) ∷ (target + x * width) ∷ []) (ltb (x + 1) n) f (rs (suc x)))) steps all

    -- where the choice stands
    choice_there : slice_get code (a + length from + width + 1 + length to + width + 1 + 1 + 1) ≡ Some (Controls (Below label))
    choice_there =
        let lf = length from in
        let lt = length to in
        let last : List (Line I O) = store_value width ∷ Controls (AddImm 3 3 false 1) ∷ Controls (Compare 3 1) ∷ Controls (Below label) ∷ [] in
        let part5 : List (Line I O) = pixel_lines 7 width ++ last in
        let part4 : List (Line I O) = to ++ part5 in
        let part3 : List (Line I O) = load_value width ∷ part4 in
        let part2 : List (Line I O) = pixel_lines 5 width ++ part3 in
        let at2 = stands-back code a from part2 there in
        let at3 : Stands code (a + lf + width) part3 = subst (λ m. Stands code (a + lf + m) part3) (length-pixel_lines I O 5 width) (stands-back code (a + lf) (pixel_lines 5 width) part3 at2) in
        let at5 : Stands code (a + lf + width + 1 + lt) part5 = stands-back code (a + lf + width + 1) to part5 at3.1 in
        let at6 : Stands code (a + lf + width + 1 + lt + width) last = subst (λ m. Stands code (a + lf + width + 1 + lt + m) last) (length-pixel_lines I O 7 width) (stands-back code (a + lf + width + 1 + lt) (pixel_lines 7 width) last at5) in
        at6.1.1.1.0

    -- so many pixels are left, at least one
    pub record Copied (count x p v e : ℕ) (flag : Bool) : Type 0 where
      pub pointer : ℕ
      pub value : ℕ
      pub end : ℕ
      pub comes : Comes t code labels count (now a (tb ∷ n ∷ s ∷ x ∷ u ∷ p ∷ v ∷ e ∷ []) flag f (rs x)) (now (a + turn_count from to width) (tb ∷ n ∷ s ∷ n ∷ u ∷ pointer ∷ value ∷ end ∷ []) false f (rs n))

    pub copied : (m x p v e : ℕ) (flag : Bool) → x + suc m ≡ n → Copied (turn_count from to width * suc m) x p v e flag
    copied zero x p v e flag sum =
        let c = turn_count from to width in
        let turn = pixel_copied x p v e flag (omega arith) in
        let there = choice_there in
        let test : ltb (x + 1) n ≡ false = le-ltb (x + 1) n (omega arith) in
        let all : x + 1 ≡ n = omega arith in
        let all' : suc x ≡ n = omega arith in
        let base = a + length from + width + 1 + length to + width + 1 + 1 + 1 in
        let last : Comes t code labels 1 (now base (tb ∷ n ∷ s ∷ (x + 1) ∷ u ∷ (source + x * width) ∷ number (held x) ∷ (target + x * width) ∷ []) (ltb (x + 1) n) f (rs (suc x))) (now (base + 1) (tb ∷ n ∷ s ∷ (x + 1) ∷ u ∷ (source + x * width) ∷ number (held x) ∷ (target + x * width) ∷ []) false f (rs (suc x))) =
        comes-one t code labels (Controls (Below label)) _ _ there (rw test refl) in
        let whole = comes-on t code labels (c - 1) 1 _ _ _ turn last in
        let steps : c - 1 + 1 ≡ c * 1 = omega arith in
        let place : base + 1 ≡ a + c = omega arith in
        let start = now a (tb ∷ n ∷ s ∷ x ∷ u ∷ p ∷ v ∷ e ∷ []) flag f (rs x) in
        record {
          pointer = source + x * width;
          value = number (held x);
          end = target + x * width;
          comes = subst (λ k. Comes t code labels k start (now (a + c) (tb ∷ n ∷ s ∷ n ∷ u ∷ (source + x * width) ∷ number (held x) ∷ (target + x * width) ∷ []) false f (rs n))) steps
              (subst (λ k. Comes t code labels (c - 1 + 1) start (now (a + c) (tb ∷ n ∷ s ∷ n ∷ u ∷ (source + x * width) ∷ number (held x) ∷ (target + x * width) ∷ []) false f (rs k))) all'
              (subst (λ k. Comes t code labels (c - 1 + 1) start (now (a + c) (tb ∷ n ∷ s ∷ k ∷ u ∷ (source + x * width) ∷ number (held x) ∷ (target + x * width) ∷ []) false f (rs (suc x)))) all
              (subst (λ k. Comes t code labels (c - 1 + 1) start (now k (tb ∷ n ∷ s ∷ (x + 1) ∷ u ∷ (source + x * width) ∷ number (held x) ∷ (target + x * width) ∷ []) false f (rs (suc x)))) place whole)));
        }
    copied (suc m) x p v e flag sum =
        let c = turn_count from to width in
        let turn = pixel_copied x p v e flag (omega arith) in
        let there = choice_there in
        let test : ltb (x + 1) n ≡ true = lt-ltb (x + 1) n (omega arith) in
        let on : x + 1 ≡ suc x = omega arith in
        let base = a + length from + width + 1 + length to + width + 1 + 1 + 1 in
        let back : Comes t code labels 1 (now base (tb ∷ n ∷ s ∷ (x + 1) ∷ u ∷ (source + x * width) ∷ number (held x) ∷ (target + x * width) ∷ []) (ltb (x + 1) n) f (rs (suc x))) (now a (tb ∷ n ∷ s ∷ (x + 1) ∷ u ∷ (source + x * width) ∷ number (held x) ∷ (target + x * width) ∷ []) true f (rs (suc x))) =
        comes-one t code labels (Controls (Below label)) _ _ there (rw (test, to_label) refl) in
        let start = now a (tb ∷ n ∷ s ∷ x ∷ u ∷ p ∷ v ∷ e ∷ []) flag f (rs x) in
        let way : Comes t code labels (c - 1 + 1) start (now a (tb ∷ n ∷ s ∷ suc x ∷ u ∷ (source + x * width) ∷ number (held x) ∷ (target + x * width) ∷ []) true f (rs (suc x))) =
        subst (λ k. Comes t code labels (c - 1 + 1) start (now a (tb ∷ n ∷ s ∷ k ∷ u ∷ (source + x * width) ∷ number (held x) ∷ (target + x * width) ∷ []) true f (rs (suc x)))) on (comes-on t code labels (c - 1) 1 _ _ _ turn back) in
        let rest = copied m (suc x) (source + x * width) (number (held x)) (target + x * width) true (omega arith) in
        let whole = comes-on t code labels (c - 1 + 1) (c * suc m) _ _ _ way rest.comes in
        let product : c * suc (suc m) ≡ c + c * suc m = count_more c (suc m) in
        let steps : c - 1 + 1 + c * suc m ≡ c * suc (suc m) = omega arith in
        record {
          pointer = rest.pointer;
          value = rest.value;
          end = rest.end;
          comes = subst (λ k. Comes t code labels k start (now (a + c) (tb ∷ n ∷ s ∷ n ∷ u ∷ rest.pointer ∷ rest.value ∷ rest.end ∷ []) false f (rs n))) steps whole;
        }
