-- The ways that a row takes round its block.
use Rattle.std.proofs.Common.{◌≡◌, ℕ, ◌+◌, ◌-◌, ◌*◌, ◌^◌, ◌<◌, ◌≤◌, List, [], ◌∷◌, length, Bool, true, false, Some, refl, arith, ltb, ap, ◌∙◌}
use Rattle.std.specs.Prelude.{codes}
use Rattle.std.proofs.lemmas.Bool.{lt-ltb, le-ltb}
use Rattle.pf_ints.specs.declared.target.Target.{Target}
use Rattle.pf_ints.specs.declared.target.Target.TheVariants.{Neon, Avx2, Hvx}
use Rattle.pf_machine.specs.declared.registers.RegFile.{RegFile}
use Rattle.pf_machine.specs.declared.memory.Region.{Region}
use Rattle.pf_machine.specs.declared.control.Control.TheVariants.{LoadPtr, Imm, AddImm, Compare, Below, Jump, Return}
use Rattle.pf_machine.specs.declared.code.Line.{Line}
use Rattle.pf_machine.specs.declared.code.Line.TheVariants.{Control as Controls}
use Rattle.pf_machine.specs.declared.code.Label.{Label}
use Rattle.pf_machine.specs.declared.block.Item.{Item}
use Rattle.pf_machine.specs.Meaning.Bytes.{number}
use Rattle.pf_machine.specs.Meaning.Memory.{loaded}
use Rattle.pf_machine.specs.Meaning.Tables.{Table}
use Rattle.pf_machine.specs.Meaning.MachineSteps.{State, Returned, Ended, run, step, register_wrapped, pointer_bytes, place_of, sum_of}
use Rattle.pf_machine.proofs.StepLaws.{wrapped_small, run_returned}
use Rattle.pf_rows.specs.Steps.RowCode.{begin_lines, block_lines, next_lines, tail_lines, last_lines, narrow_lines, back_lines, next_at, narrow_at, back_at, tap_copy, copy_label}
use Rattle.pf_rows.proofs.Paths.{Stands, now, Comes, comes-on, comes-one}

-- the labels of the taps' copies, from tap k on, whose copies begin at this place
abbrev pub Copies : (I O : Type 0) → List Label → (end vector taps k before : ℕ) → List ℕ → Type 0
Copies I O labels end vector taps k before [] = Unit {0}
Copies I O labels end vector taps k before (width ∷ widths) = (place_of labels end (copy_label k) ≡ before + 1) × Copies I O labels end vector taps (k + 1) (before + length (tap_copy {I = I} {O = O} vector taps k width)) widths

-- the parts of a row's code stand where they should, and its labels lead there
pub record Laid {I O : Type 0} (t : Table O) (code : List (Line I O)) (labels : List Label) (widths : List ℕ) (width : ℕ) (block : List (Item O)) : Type 0 where
  pub begin : Stands code 0 (begin_lines t.vector (length widths))
  pub steps : Stands code 7 (block_lines t widths width block)
  pub next : Stands code (next_at I t widths width block) (next_lines t.vector)
  pub tail : Stands code (next_at I t widths width block + 8) tail_lines
  pub last : Stands code (next_at I t widths width block + 11) (last_lines t.vector)
  pub narrow : Stands code (narrow_at I t widths width block) (narrow_lines t.vector widths)
  pub back : Stands code (back_at I t widths width block) (back_lines t.vector (length widths) width)
  pub to_block : place_of labels (length code) (codes "block") ≡ 7
  pub to_tail : place_of labels (length code) (codes "tail") ≡ next_at I t widths width block + 8
  pub to_last : place_of labels (length code) (codes "last") ≡ next_at I t widths width block + 11
  pub to_narrow : place_of labels (length code) (codes "narrow") ≡ narrow_at I t widths width block
  pub to_copies : Copies I O labels (length code) t.vector (length widths) 0 (narrow_at I t widths width block) widths
  pub to_back : place_of labels (length code) (codes "back") ≡ back_at I t widths width block
  pub to_loop : place_of labels (length code) (codes "loop") ≡ back_at I t widths width block + 1

-- a number that is taken away from a greater one
pub less_of : (target : Target) (n by : ℕ) → by ≤ n → n < 2 ^ 31 → sum_of target n true by ≡ n - by
less_of Neon n by less small = omega arith
less_of Avx2 n by less small = omega arith
less_of Hvx n by less small = omega arith

module _ {I O : Type 0} (t : Table O) (code : List (Line I O)) (labels : List Label) (widths : List ℕ) (width : ℕ) (block : List (Item O)) (laid : Laid t code labels widths width block) where
  abbrev taps : ℕ
  taps = length widths

  abbrev b : ℕ
  b = next_at I t widths width block

  -- a row begins, up to its choice
  begun : (tb n s : ℕ) (f : RegFile) (rs : List Region) (count scratch : List ℕ) → tb < 2 ^ 31 → t.vector < 65536
      → loaded rs (register_wrapped t.target (tb + 8 * (taps + 2))) (pointer_bytes t.target) ≡ Some count → number count ≡ n
      → loaded rs (register_wrapped t.target (tb + 8 * (taps + 1))) (pointer_bytes t.target) ≡ Some scratch → number scratch ≡ s
      → Comes t code labels 5 (now 0 (tb ∷ 0 ∷ 0 ∷ 0 ∷ 0 ∷ 0 ∷ 0 ∷ 0 ∷ []) false f rs) (now 5 (tb ∷ n ∷ s ∷ 0 ∷ tb ∷ 0 ∷ 0 ∷ t.vector ∷ []) (ltb n t.vector) f rs)
  begun tb n s f rs count scratch low small load is load' is' =
      let none : tb + 0 ≡ tb = omega arith in
      let same : register_wrapped t.target (tb + 0) ≡ tb = ap (λ a. register_wrapped t.target a) none ∙ wrapped_small t.target tb (omega arith) in
      let there = laid.begin in
      let one : Comes t code labels 1 (now 0 (tb ∷ 0 ∷ 0 ∷ 0 ∷ 0 ∷ 0 ∷ 0 ∷ 0 ∷ []) false f rs) (now 1 (tb ∷ 0 ∷ 0 ∷ 0 ∷ tb ∷ 0 ∷ 0 ∷ 0 ∷ []) false f rs) =
      comes-one t code labels (Controls (AddImm 4 0 false 0)) _ _ there.0 (rw same refl) in
      let two : Comes t code labels 1 (now 1 (tb ∷ 0 ∷ 0 ∷ 0 ∷ tb ∷ 0 ∷ 0 ∷ 0 ∷ []) false f rs) (now 2 (tb ∷ n ∷ 0 ∷ 0 ∷ tb ∷ 0 ∷ 0 ∷ 0 ∷ []) false f rs) =
      comes-one t code labels (Controls (LoadPtr 1 4 (taps + 2))) _ _ there.1.0 (rw (load, is) refl) in
      let three : Comes t code labels 1 (now 2 (tb ∷ n ∷ 0 ∷ 0 ∷ tb ∷ 0 ∷ 0 ∷ 0 ∷ []) false f rs) (now 3 (tb ∷ n ∷ s ∷ 0 ∷ tb ∷ 0 ∷ 0 ∷ 0 ∷ []) false f rs) =
      comes-one t code labels (Controls (LoadPtr 2 4 (taps + 1))) _ _ there.1.1.0 (rw (load', is') refl) in
      let four : Comes t code labels 1 (now 3 (tb ∷ n ∷ s ∷ 0 ∷ tb ∷ 0 ∷ 0 ∷ 0 ∷ []) false f rs) (now 4 (tb ∷ n ∷ s ∷ 0 ∷ tb ∷ 0 ∷ 0 ∷ t.vector ∷ []) false f rs) =
      comes-one t code labels (Controls (Imm 7 t.vector)) _ _ there.1.1.1.0 refl in
      let five : Comes t code labels 1 (now 4 (tb ∷ n ∷ s ∷ 0 ∷ tb ∷ 0 ∷ 0 ∷ t.vector ∷ []) false f rs) (now 5 (tb ∷ n ∷ s ∷ 0 ∷ tb ∷ 0 ∷ 0 ∷ t.vector ∷ []) (ltb n t.vector) f rs) =
      comes-one t code labels (Controls (Compare 1 7)) _ _ there.1.1.1.1.0 refl in
      comes-on t code labels 1 4 _ _ _ one (comes-on t code labels 1 3 _ _ _ two (comes-on t code labels 1 2 _ _ _ three (comes-on t code labels 1 1 _ _ _ four five)))

  pub begins_wide : (tb n s : ℕ) (f : RegFile) (rs : List Region) (count scratch : List ℕ) → tb < 2 ^ 31 → t.vector < 65536 → t.vector ≤ n
      → loaded rs (register_wrapped t.target (tb + 8 * (taps + 2))) (pointer_bytes t.target) ≡ Some count → number count ≡ n
      → loaded rs (register_wrapped t.target (tb + 8 * (taps + 1))) (pointer_bytes t.target) ≡ Some scratch → number scratch ≡ s
      → Comes t code labels 7 (now 0 (tb ∷ 0 ∷ 0 ∷ 0 ∷ 0 ∷ 0 ∷ 0 ∷ 0 ∷ []) false f rs) (now 7 (tb ∷ n ∷ s ∷ 0 ∷ tb ∷ 0 ∷ 0 ∷ t.vector ∷ []) false f rs)
  begins_wide tb n s f rs count scratch low small wide load is load' is' =
      let there = laid.begin in
      let test : ltb n t.vector ≡ false = le-ltb n t.vector wide in
      let start = begun tb n s f rs count scratch low small load is load' is' in
      let six : Comes t code labels 1 (now 5 (tb ∷ n ∷ s ∷ 0 ∷ tb ∷ 0 ∷ 0 ∷ t.vector ∷ []) (ltb n t.vector) f rs) (now 6 (tb ∷ n ∷ s ∷ 0 ∷ tb ∷ 0 ∷ 0 ∷ t.vector ∷ []) false f rs) =
      comes-one t code labels (Controls (Below (codes "narrow"))) _ _ there.1.1.1.1.1.0 (rw test refl) in
      let seven : Comes t code labels 1 (now 6 (tb ∷ n ∷ s ∷ 0 ∷ tb ∷ 0 ∷ 0 ∷ t.vector ∷ []) false f rs) (now 7 (tb ∷ n ∷ s ∷ 0 ∷ tb ∷ 0 ∷ 0 ∷ t.vector ∷ []) false f rs) =
      comes-one t code labels (Controls (Imm 3 0)) _ _ there.1.1.1.1.1.1.0 refl in
      comes-on t code labels 5 2 _ _ _ start (comes-on t code labels 1 1 _ _ _ six seven)

  pub begins_narrow : (tb n s : ℕ) (f : RegFile) (rs : List Region) (count scratch : List ℕ) → tb < 2 ^ 31 → t.vector < 65536 → n < t.vector
      → loaded rs (register_wrapped t.target (tb + 8 * (taps + 2))) (pointer_bytes t.target) ≡ Some count → number count ≡ n
      → loaded rs (register_wrapped t.target (tb + 8 * (taps + 1))) (pointer_bytes t.target) ≡ Some scratch → number scratch ≡ s
      → Comes t code labels 6 (now 0 (tb ∷ 0 ∷ 0 ∷ 0 ∷ 0 ∷ 0 ∷ 0 ∷ 0 ∷ []) false f rs) (now (narrow_at I t widths width block) (tb ∷ n ∷ s ∷ 0 ∷ tb ∷ 0 ∷ 0 ∷ t.vector ∷ []) true f rs)
  begins_narrow tb n s f rs count scratch low small narrow load is load' is' =
      let there = laid.begin in
      let to = laid.to_narrow in
      let test : ltb n t.vector ≡ true = lt-ltb n t.vector narrow in
      let start = begun tb n s f rs count scratch low small load is load' is' in
      let six : Comes t code labels 1 (now 5 (tb ∷ n ∷ s ∷ 0 ∷ tb ∷ 0 ∷ 0 ∷ t.vector ∷ []) (ltb n t.vector) f rs) (now (narrow_at I t widths width block) (tb ∷ n ∷ s ∷ 0 ∷ tb ∷ 0 ∷ 0 ∷ t.vector ∷ []) true f rs) =
      comes-one t code labels (Controls (Below (codes "narrow"))) _ _ there.1.1.1.1.1.0 (rw (test, to) refl) in
      comes-on t code labels 5 1 _ _ _ start six

  -- behind the block, the choice between the two kinds of rows
  parted : (tb n s x u p v e : ℕ) (flag : Bool) (f : RegFile) (rs : List Region)
      → Comes t code labels 2 (now b (tb ∷ n ∷ s ∷ x ∷ u ∷ p ∷ v ∷ e ∷ []) flag f rs) (now (b + 1 + 1) (tb ∷ n ∷ s ∷ x ∷ u ∷ p ∷ v ∷ t.vector ∷ []) (ltb n t.vector) f rs)
  parted tb n s x u p v e flag f rs =
      let there = laid.next in
      let one : Comes t code labels 1 (now b (tb ∷ n ∷ s ∷ x ∷ u ∷ p ∷ v ∷ e ∷ []) flag f rs) (now (b + 1) (tb ∷ n ∷ s ∷ x ∷ u ∷ p ∷ v ∷ t.vector ∷ []) flag f rs) = comes-one t code labels (Controls (Imm 7 t.vector)) _ _ there.0 refl in
      let two : Comes t code labels 1 (now (b + 1) (tb ∷ n ∷ s ∷ x ∷ u ∷ p ∷ v ∷ t.vector ∷ []) flag f rs) (now (b + 1 + 1) (tb ∷ n ∷ s ∷ x ∷ u ∷ p ∷ v ∷ t.vector ∷ []) (ltb n t.vector) f rs) = comes-one t code labels (Controls (Compare 1 7)) _ _ there.1.0 refl in
      comes-on t code labels 1 1 _ _ _ one two

  pub parts_back : (tb n s x u p v e : ℕ) (flag : Bool) (f : RegFile) (rs : List Region) → n < t.vector
      → Comes t code labels 3 (now b (tb ∷ n ∷ s ∷ x ∷ u ∷ p ∷ v ∷ e ∷ []) flag f rs) (now (back_at I t widths width block) (tb ∷ n ∷ s ∷ x ∷ u ∷ p ∷ v ∷ t.vector ∷ []) true f rs)
  parts_back tb n s x u p v e flag f rs narrow =
      let there = laid.next in
      let to = laid.to_back in
      let test : ltb n t.vector ≡ true = lt-ltb n t.vector narrow in
      let three : Comes t code labels 1 (now (b + 1 + 1) (tb ∷ n ∷ s ∷ x ∷ u ∷ p ∷ v ∷ t.vector ∷ []) (ltb n t.vector) f rs) (now (back_at I t widths width block) (tb ∷ n ∷ s ∷ x ∷ u ∷ p ∷ v ∷ t.vector ∷ []) true f rs) =
      comes-one t code labels (Controls (Below (codes "back"))) _ _ there.1.1.0 (rw (test, to) refl) in
      comes-on t code labels 2 1 _ _ _ (parted tb n s x u p v e flag f rs) three

  -- the next x, in a row that isn't narrow
  chosen : (tb n s x u p v e : ℕ) (flag : Bool) (f : RegFile) (rs : List Region) → t.vector ≤ n → x + t.vector + t.vector < 2 ^ 32
      → Comes t code labels 6 (now b (tb ∷ n ∷ s ∷ x ∷ u ∷ p ∷ v ∷ e ∷ []) flag f rs) (now (b + 1 + 1 + 1 + 1 + 1 + 1) (tb ∷ n ∷ s ∷ (x + t.vector) ∷ u ∷ p ∷ v ∷ (x + t.vector + t.vector) ∷ []) (ltb n (x + t.vector + t.vector)) f rs)
  chosen tb n s x u p v e flag f rs wide low =
      let there = laid.next in
      let test : ltb n t.vector ≡ false = le-ltb n t.vector wide in
      let on : register_wrapped t.target (x + t.vector) ≡ x + t.vector = wrapped_small t.target (x + t.vector) (omega arith) in
      let end : register_wrapped t.target (x + t.vector + t.vector) ≡ x + t.vector + t.vector = wrapped_small t.target (x + t.vector + t.vector) low in
      let three : Comes t code labels 1 (now (b + 1 + 1) (tb ∷ n ∷ s ∷ x ∷ u ∷ p ∷ v ∷ t.vector ∷ []) (ltb n t.vector) f rs) (now (b + 1 + 1 + 1) (tb ∷ n ∷ s ∷ x ∷ u ∷ p ∷ v ∷ t.vector ∷ []) false f rs) =
      comes-one t code labels (Controls (Below (codes "back"))) _ _ there.1.1.0 (rw test refl) in
      let four : Comes t code labels 1 (now (b + 1 + 1 + 1) (tb ∷ n ∷ s ∷ x ∷ u ∷ p ∷ v ∷ t.vector ∷ []) false f rs) (now (b + 1 + 1 + 1 + 1) (tb ∷ n ∷ s ∷ (x + t.vector) ∷ u ∷ p ∷ v ∷ t.vector ∷ []) false f rs) =
      comes-one t code labels (Controls (AddImm 3 3 false t.vector)) _ _ there.1.1.1.0 (rw on refl) in
      let five : Comes t code labels 1 (now (b + 1 + 1 + 1 + 1) (tb ∷ n ∷ s ∷ (x + t.vector) ∷ u ∷ p ∷ v ∷ t.vector ∷ []) false f rs) (now (b + 1 + 1 + 1 + 1 + 1) (tb ∷ n ∷ s ∷ (x + t.vector) ∷ u ∷ p ∷ v ∷ (x + t.vector + t.vector) ∷ []) false f rs) =
      comes-one t code labels (Controls (AddImm 7 3 false t.vector)) _ _ there.1.1.1.1.0 (rw end refl) in
      let six : Comes t code labels 1 (now (b + 1 + 1 + 1 + 1 + 1) (tb ∷ n ∷ s ∷ (x + t.vector) ∷ u ∷ p ∷ v ∷ (x + t.vector + t.vector) ∷ []) false f rs) (now (b + 1 + 1 + 1 + 1 + 1 + 1) (tb ∷ n ∷ s ∷ (x + t.vector) ∷ u ∷ p ∷ v ∷ (x + t.vector + t.vector) ∷ []) (ltb n (x + t.vector + t.vector)) f rs) =
      comes-one t code labels (Controls (Compare 1 7)) _ _ there.1.1.1.1.1.0 refl in
      comes-on t code labels 2 4 _ _ _ (parted tb n s x u p v e flag f rs) (comes-on t code labels 1 3 _ _ _ three (comes-on t code labels 1 2 _ _ _ four (comes-on t code labels 1 1 _ _ _ five six)))

  -- a whole block is left
  pub goes_on : (tb n s x u p v e : ℕ) (flag : Bool) (f : RegFile) (rs : List Region) → x + t.vector + t.vector ≤ n → n < 2 ^ 31
      → Comes t code labels 8 (now b (tb ∷ n ∷ s ∷ x ∷ u ∷ p ∷ v ∷ e ∷ []) flag f rs) (now 7 (tb ∷ n ∷ s ∷ (x + t.vector) ∷ u ∷ p ∷ v ∷ (x + t.vector + t.vector) ∷ []) false f rs)
  goes_on tb n s x u p v e flag f rs more low =
      let there = laid.next in
      let to = laid.to_block in
      let test : ltb n (x + t.vector + t.vector) ≡ false = le-ltb n (x + t.vector + t.vector) more in
      let seven : Comes t code labels 1 (now (b + 1 + 1 + 1 + 1 + 1 + 1) (tb ∷ n ∷ s ∷ (x + t.vector) ∷ u ∷ p ∷ v ∷ (x + t.vector + t.vector) ∷ []) (ltb n (x + t.vector + t.vector)) f rs) (now (b + 1 + 1 + 1 + 1 + 1 + 1 + 1) (tb ∷ n ∷ s ∷ (x + t.vector) ∷ u ∷ p ∷ v ∷ (x + t.vector + t.vector) ∷ []) false f rs) =
      comes-one t code labels (Controls (Below (codes "tail"))) _ _ there.1.1.1.1.1.1.0 (rw test refl) in
      let eight : Comes t code labels 1 (now (b + 1 + 1 + 1 + 1 + 1 + 1 + 1) (tb ∷ n ∷ s ∷ (x + t.vector) ∷ u ∷ p ∷ v ∷ (x + t.vector + t.vector) ∷ []) false f rs) (now 7 (tb ∷ n ∷ s ∷ (x + t.vector) ∷ u ∷ p ∷ v ∷ (x + t.vector + t.vector) ∷ []) false f rs) =
      comes-one t code labels (Controls (Jump (codes "block"))) _ _ there.1.1.1.1.1.1.1.0 (rw to refl) in
      comes-on t code labels 6 2 _ _ _ (chosen tb n s x u p v e flag f rs (omega arith) (omega arith)) (comes-on t code labels 1 1 _ _ _ seven eight)

  -- none is left
  to_tail : (tb n s x u p v e : ℕ) (flag : Bool) (f : RegFile) (rs : List Region) → t.vector ≤ n → x + t.vector ≤ n → n < x + t.vector + t.vector → n < 2 ^ 31
      → Comes t code labels 8 (now b (tb ∷ n ∷ s ∷ x ∷ u ∷ p ∷ v ∷ e ∷ []) flag f rs) (now (b + 8 + 1) (tb ∷ n ∷ s ∷ (x + t.vector) ∷ u ∷ p ∷ v ∷ (x + t.vector + t.vector) ∷ []) (ltb (x + t.vector) n) f rs)
  to_tail tb n s x u p v e flag f rs wide within less low =
      let there = laid.next in
      let tail = laid.tail in
      let to = laid.to_tail in
      let test : ltb n (x + t.vector + t.vector) ≡ true = lt-ltb n (x + t.vector + t.vector) less in
      let seven : Comes t code labels 1 (now (b + 1 + 1 + 1 + 1 + 1 + 1) (tb ∷ n ∷ s ∷ (x + t.vector) ∷ u ∷ p ∷ v ∷ (x + t.vector + t.vector) ∷ []) (ltb n (x + t.vector + t.vector)) f rs) (now (b + 8) (tb ∷ n ∷ s ∷ (x + t.vector) ∷ u ∷ p ∷ v ∷ (x + t.vector + t.vector) ∷ []) true f rs) =
      comes-one t code labels (Controls (Below (codes "tail"))) _ _ there.1.1.1.1.1.1.0 (rw (test, to) refl) in
      let eight : Comes t code labels 1 (now (b + 8) (tb ∷ n ∷ s ∷ (x + t.vector) ∷ u ∷ p ∷ v ∷ (x + t.vector + t.vector) ∷ []) true f rs) (now (b + 8 + 1) (tb ∷ n ∷ s ∷ (x + t.vector) ∷ u ∷ p ∷ v ∷ (x + t.vector + t.vector) ∷ []) (ltb (x + t.vector) n) f rs) =
      comes-one t code labels (Controls (Compare 3 1)) _ _ tail.0 refl in
      comes-on t code labels 6 2 _ _ _ (chosen tb n s x u p v e flag f rs wide (omega arith)) (comes-on t code labels 1 1 _ _ _ seven eight)

  -- fewer pixels are left than a block has
  pub goes_last : (tb n s x u p v e : ℕ) (flag : Bool) (f : RegFile) (rs : List Region) → t.vector ≤ n → x + t.vector < n → n < x + t.vector + t.vector
      → n < 2 ^ 31 → 1 ≤ t.vector
      → Comes t code labels 11 (now b (tb ∷ n ∷ s ∷ x ∷ u ∷ p ∷ v ∷ e ∷ []) flag f rs) (now 7 (tb ∷ n ∷ s ∷ (n - t.vector) ∷ u ∷ p ∷ v ∷ (x + t.vector + t.vector) ∷ []) true f rs)
  goes_last tb n s x u p v e flag f rs wide within less low some =
      let tail = laid.tail in
      let last = laid.last in
      let to = laid.to_last in
      let to' = laid.to_block in
      let test : ltb (x + t.vector) n ≡ true = lt-ltb (x + t.vector) n within in
      let back : sum_of t.target n true t.vector ≡ n - t.vector = less_of t.target n t.vector wide low in
      let one : Comes t code labels 1 (now (b + 8 + 1) (tb ∷ n ∷ s ∷ (x + t.vector) ∷ u ∷ p ∷ v ∷ (x + t.vector + t.vector) ∷ []) (ltb (x + t.vector) n) f rs) (now (b + 11) (tb ∷ n ∷ s ∷ (x + t.vector) ∷ u ∷ p ∷ v ∷ (x + t.vector + t.vector) ∷ []) true f rs) =
      comes-one t code labels (Controls (Below (codes "last"))) _ _ tail.1.0 (rw (test, to) refl) in
      let two : Comes t code labels 1 (now (b + 11) (tb ∷ n ∷ s ∷ (x + t.vector) ∷ u ∷ p ∷ v ∷ (x + t.vector + t.vector) ∷ []) true f rs) (now (b + 11 + 1) (tb ∷ n ∷ s ∷ (n - t.vector) ∷ u ∷ p ∷ v ∷ (x + t.vector + t.vector) ∷ []) true f rs) =
      comes-one t code labels (Controls (AddImm 3 1 true t.vector)) _ _ last.0 (rw back refl) in
      let three : Comes t code labels 1 (now (b + 11 + 1) (tb ∷ n ∷ s ∷ (n - t.vector) ∷ u ∷ p ∷ v ∷ (x + t.vector + t.vector) ∷ []) true f rs) (now 7 (tb ∷ n ∷ s ∷ (n - t.vector) ∷ u ∷ p ∷ v ∷ (x + t.vector + t.vector) ∷ []) true f rs) =
      comes-one t code labels (Controls (Jump (codes "block"))) _ _ last.1.0 (rw to' refl) in
      comes-on t code labels 8 3 _ _ _ (to_tail tb n s x u p v e flag f rs wide (omega arith) less low) (comes-on t code labels 1 2 _ _ _ one (comes-on t code labels 1 1 _ _ _ two three))

  -- the row is over
  pub record Ends (budget : ℕ) (s : State) (rs : List Region) : Type 0 where
    pub last : State
    pub ends : run t code labels budget s ≡ Ended last
    pub regions : last.regions ≡ rs

  pub comes-ends : (count budget : ℕ) (s s' : State) (rs : List Region) → Comes t code labels count s s' → Ends budget s' rs → Ends (count + budget) s rs
  comes-ends count budget s s' rs comes ends = record { last = ends.last; ends = comes.by budget ∙ ends.ends; regions = ends.regions }

  pub returns : (a : ℕ) (g : List ℕ) (flag : Bool) (f : RegFile) (rs : List Region) → Rattle.std.specs.Prelude.slice_get code a ≡ Some (Controls Return)
      → Ends 1 (now a g flag f rs) rs
  returns a g flag f rs there =
      let here : step t code labels (now a g flag f rs) ≡ Returned = rw there refl in
      record { last = now a g flag f rs; ends = run_returned t code labels 0 (now a g flag f rs) here; regions = refl }

  pub ends_wide : (tb n s x u p v e : ℕ) (flag : Bool) (f : RegFile) (rs : List Region) → t.vector ≤ n → x + t.vector ≡ n → n < 2 ^ 31 → 1 ≤ t.vector
      → Ends 10 (now b (tb ∷ n ∷ s ∷ x ∷ u ∷ p ∷ v ∷ e ∷ []) flag f rs) rs
  ends_wide tb n s x u p v e flag f rs wide all low some =
      let tail = laid.tail in
      let test : ltb (x + t.vector) n ≡ false = le-ltb (x + t.vector) n (omega arith) in
      let one : Comes t code labels 1 (now (b + 8 + 1) (tb ∷ n ∷ s ∷ (x + t.vector) ∷ u ∷ p ∷ v ∷ (x + t.vector + t.vector) ∷ []) (ltb (x + t.vector) n) f rs) (now (b + 8 + 1 + 1) (tb ∷ n ∷ s ∷ (x + t.vector) ∷ u ∷ p ∷ v ∷ (x + t.vector + t.vector) ∷ []) false f rs) =
      comes-one t code labels (Controls (Below (codes "last"))) _ _ tail.1.0 (rw test refl) in
      comes-ends 8 2 _ _ rs (to_tail tb n s x u p v e flag f rs wide (omega arith) (omega arith) low)
      (comes-ends 1 1 _ _ rs one (returns (b + 8 + 1 + 1) (tb ∷ n ∷ s ∷ (x + t.vector) ∷ u ∷ p ∷ v ∷ (x + t.vector + t.vector) ∷ []) false f rs tail.1.1.0))
