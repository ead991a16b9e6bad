-- A set's table meets the laws of every set of instructions.
use Rattle.std.proofs.Common.{◌≡◌, ℕ, ◌+◌, ◌/◌, ◌%◌, ◌<◌, ◌≤◌, List, [], ◌∷◌, ◌++◌, take, All, Bool, true, false, length, map, Option, None, Some, MatchOption, refl, arith, sym, ap, ◌∙◌, ⊎_elim, length-append, length-take}
use Rattle.std.specs.Prelude.{nat_lt, ◌||◌, ◌==◌, replicate, slice_index_or, if◌then◌else◌}
use Rattle.std.specs.Option.{option_map}
use Rattle.std.proofs.lemmas.Bool.{and_parts, cases_Bool, eqb-true, ltb-true, ne_eqb, or_cases}
use Rattle.std.proofs.lemmas.List.{length-map, length-replicate}
use Rattle.std.proofs.lemmas.List.Elements.{All-from_recursion, All-append, All-take, All-replicate}
use Rattle.pf_ints.specs.declared.lane.LaneType.{LaneType}
use Rattle.pf_lanes.specs.declared.recipes.Recipe.{Recipe}
use Rattle.pf_lanes.specs.Meaning.Lanes.{bytes_of}
use Rattle.pf_lanes.specs.Meaning.Recipes.{lane_value}
use Rattle.pf_lanes.proofs.LaneLaws.{length-made, bytes-made}
use Rattle.pf_machine.specs.declared.registers.RegFile.{RegFile}
use Rattle.pf_machine.specs.declared.registers.Reg.TheVariants.{V, K, Q}
use Rattle.pf_machine.specs.Meaning.Bytes.{AreBytes}
use Rattle.pf_machine.specs.Meaning.RegisterFiles.{IsRegisterOf, renamed_vector, renamed_register, register_by, write, writes}
use Rattle.pf_machine.specs.Meaning.Tables.{IsTable, IsFile, CanRun, Accesses, renamed_access, access_by, KeepsFixed, vector_count, after}
use Rattle.pf_machine.proofs.FileLaws.{vector_are, file_with}
use Rattle.pf_frames.proofs.TextLaws as Texts
use Rattle.pf_tables.specs.declared.row.Row.{Row}
use Rattle.pf_tables.specs.declared.row.Extent.{Extent}
use Rattle.pf_tables.specs.declared.row.Extent.TheVariants.{Whole, Lower}
use Rattle.pf_tables.specs.declared.operands.Ends.{Ends}
use Rattle.pf_tables.specs.Meaning.Registers.{renamed_sources, ends_by}
use Rattle.pf_tables.specs.declared.instruction.Instruction.{Instruction}
use Rattle.pf_tables.specs.declared.instruction.Instruction.TheVariants.{Load, Store, Copy, Constant, ConstantHigh, FromConstant, Unary, Binary, Accumulate, Shift, ByConstant, JoinedByConstant, Upper, UpperShift, Blend, Choose, Compare, Pair, PairUnary, Move}
use Rattle.pf_tables.specs.Meaning.Sets.{InstructionSet, is_fixed}
use Rattle.pf_tables.specs.Meaning.Instructions.{IsListed, uses, defs, access, cost, renamed, ends_renamed, renamed_all, unless_fixed}
use Rattle.pf_tables.specs.Meaning.Effects.{lanes_of, vector_of, upper_of, truths, made_by, made_by_two, pair_of, moved, elements, lower, upper, outcome}
use Rattle.pf_tables.specs.Meaning.Lines.{lines}
use Rattle.pf_tables.specs.Meaning.Tables.{table_of}
use Rattle.pf_tables.specs.Meaning.Laws.{IsSet}
use Rattle.pf_tables.specs.Steps.RowLaws.{whole_lanes}
use Rattle.pf_tables.specs.Steps.LineLaws.{lines_are, texts_are}

-- what recipes make are bytes, as many as are asked for
lanes_are : (n : ℕ) → n % 4 ≡ 0 → (r : Recipe) (k : ℕ) (a b c : List ℕ) → AreBytes n (lanes_of n r k a b c)
lanes_are n h r k a b c = record {
  size = length-made r.to (n / bytes_of r.to) (lane_value r k a b c) ∙ sym (whole_lanes n r.to.bits h);
  small = bytes-made r.to (n / bytes_of r.to) (lane_value r k a b c);
}

joined_are : (m n : ℕ) (low high : List ℕ) → AreBytes m low → AreBytes n high → AreBytes (m + n) (low ++ high)
joined_are m n low high l h = record {
  size = rw (length-append low high, l.size, h.size) refl;
  small = All-append (λ b. b < 256) low high l.small h.small;
}

zeros_are : (n : ℕ) → AreBytes n (replicate n 0)
zeros_are n = record { size = length-replicate n 0; small = All-replicate (λ b. b < 256) n 0 (omega arith) }

taken_are : (m n : ℕ) (bs : List ℕ) → AreBytes n bs → m ≤ n → AreBytes m (take m bs)
taken_are m n bs are less = record {
  size = let long = are.size in simp length-take (omega arith);
  small = All-take (λ b. b < 256) m bs are.small;
}

module _ (n : ℕ) (whole : n % 8 ≡ 0) where
  halves : n / 2 + n / 2 ≡ n
  halves = omega (arith, whole)

  half_whole : n / 2 % 4 ≡ 0
  half_whole = omega (arith, whole)

  lower_are : (r : Recipe) (k : ℕ) (a b c : List ℕ) → AreBytes n (lanes_of (n / 2) r k a b c ++ replicate (n / 2) 0)
  lower_are r k a b c = rw halves at (joined_are (n / 2) (n / 2) _ _ (lanes_are (n / 2) half_whole r k a b c) (zeros_are (n / 2)))

  vector_are_bytes : (e : Extent) (r : Recipe) (k : ℕ) (a b c : List ℕ) → AreBytes n (vector_of n e r k a b c)
  vector_are_bytes Whole r k a b c = lanes_are n (omega (arith, whole)) r k a b c
  vector_are_bytes Lower r k a b c = lower_are r k a b c

  two_are : (r : Row) (a b : List ℕ) → AreBytes n (made_by_two n r a b)
  two_are r a b = by r.swapped where
    by : (swapped : Bool) → AreBytes n (if swapped then made_by n r r.amount b a a else made_by n r r.amount a b b)
    by true = vector_are_bytes r.extent r.recipe r.amount b a a
    by false = vector_are_bytes r.extent r.recipe r.amount a b b

  upper_are : (r : Recipe) (k : ℕ) (kept a : List ℕ) → AreBytes n kept → AreBytes n (upper_of n r k kept a)
  upper_are r k kept a are =
      rw halves at (joined_are (n / 2) (n / 2) _ _ (taken_are (n / 2) n kept are (omega (arith, whole))) (lanes_are (n / 2) half_whole r k a a a))

module _ (s : InstructionSet) (set : IsSet s) where
  -- a file with one vector more, with a pair, and with another predicate
  module _ (f : RegFile) (is : IsFile (table_of s) (length f.vectors) f) where
    with_vector : (to : ℕ) (held : List ℕ) → AreBytes s.vector held → IsFile (table_of s) (length f.vectors) (write f (V to) held)
    with_vector to held are = file_with (table_of s) (length f.vectors) f is to held are

    with_row : (to : ℕ) (r : Row) (k : ℕ) (a b c : List ℕ) → IsFile (table_of s) (length f.vectors) (write f (V to) (made_by s.vector r k a b c))
    with_row to r k a b c = with_vector to _ (vector_are_bytes s.vector set.whole r.extent r.recipe k a b c)

    with_upper : (to : ℕ) (r : Row) (k : ℕ) (kept a : List ℕ) → AreBytes s.vector kept
        → IsFile (table_of s) (length f.vectors) (write f (V to) (upper_of s.vector r.recipe k kept a))
    with_upper to r k kept a are = with_vector to _ (upper_are s.vector set.whole r.recipe k kept a are)

    with_pair : (to : Ends) (low high : List ℕ) → AreBytes s.vector low → AreBytes s.vector high
        → IsFile (table_of s) (length f.vectors) (writes f (V to.low ∷ V to.high ∷ []) (low ∷ high ∷ []))
    with_pair to low high l h = file_with (table_of s) (length f.vectors) (write f (V to.low) low) (with_vector to.low low l) to.high high h

    lanes : (r : Recipe) (k : ℕ) (a b c : List ℕ) → AreBytes s.vector (lanes_of s.vector r k a b c)
    lanes r k a b c = lanes_are s.vector (let whole = set.whole in omega arith) r k a b c

    with_rows : (to : Ends) (r : Row) (a b : List ℕ) → IsFile (table_of s) (length f.vectors) (writes f (V to.low ∷ V to.high ∷ []) (pair_of s.vector r a b))
    with_rows to r a b = with_pair to _ _ (lanes r.recipe r.amount a b b) (lanes r.high r.amount a b b)

    with_moved : (to : Ends) (separated : Bool) (o : Option LaneType) (low high : List ℕ) → AreBytes s.vector low → AreBytes s.vector high
        → IsFile (table_of s) (length f.vectors) (writes f (V to.low ∷ V to.high ∷ []) (moved s.vector separated o low high))
    with_moved to separated None low high l h = with_pair to low high l h
    with_moved to separated (Some ty) low high l h = with_pair to _ _ (lanes (lower s.vector separated ty) 0 low high high) (lanes (upper s.vector separated ty) 0 low high high)

    with_truths : (bs : List ℕ) → AreBytes s.vector bs → IsFile (table_of s) (length f.vectors) (write f Q (truths bs))
    with_truths bs are = record {
      count = is.count;
      vectors = is.vectors;
      predicate = length-map (truths bs) (λ n. nat_lt 0 n) ∙ length-map bs _ ∙ are.size;
    }

    held_are : (n : ℕ) → n < length f.vectors → AreBytes s.vector (slice_index_or f.vectors n [])
    held_are n inside = vector_are (table_of s) (length f.vectors) f is n inside

  sized : (op : Instruction) (f : RegFile) → IsListed s op → CanRun (table_of s) op f → IsFile (table_of s) (length f.vectors) (after (table_of s) op f)
  sized (Load r) f is c = absurd (let e = c.computes in cc)
  sized (Store r) f is c = absurd (let e = c.computes in cc)
  sized (Copy r) f is c = with_vector f c.file r.to _ (held_are f c.file r.from (c.uses 0 K (omega arith)))
  sized (Constant n) f is c = record { count = c.file.count; vectors = c.file.vectors; predicate = c.file.predicate }
  sized (ConstantHigh n) f is c = record { count = c.file.count; vectors = c.file.vectors; predicate = c.file.predicate }
  sized (FromConstant place to) f is c = with_row f c.file to (s.row place) (s.row place).amount _ _ _
  sized (Unary place r) f is c = with_row f c.file r.to (s.row place) (s.row place).amount _ _ _
  sized (Binary place r) f is c = with_vector f c.file r.to _ (two_are s.vector set.whole (s.row place) _ _)
  sized (Accumulate place r) f is c = with_row f c.file r.to (s.row place) (s.row place).amount _ _ _
  sized (Shift place r by) f is c = with_row f c.file r.to (s.row place) by _ _ _
  sized (ByConstant place r) f is c = with_row f c.file r.to (s.row place) _ _ _ _
  sized (JoinedByConstant place r) f is c = with_row f c.file r.to (s.row place) _ _ _ _
  sized (Upper place r) f is c = with_upper f c.file r.to (s.row place) (s.row place).amount _ _ (held_are f c.file r.to (c.uses 0 K (omega arith)))
  sized (UpperShift place r by) f is c = with_upper f c.file r.to (s.row place) by _ _ (held_are f c.file r.to (c.uses 0 K (omega arith)))
  sized (Blend place r mask) f is c = with_row f c.file r.to (s.row place) (s.row place).amount _ _ _
  sized (Choose place r) f is c = with_row f c.file r.to (s.row place) (s.row place).amount _ _ _
  sized (Compare place r) f is c = with_truths f c.file _ (two_are s.vector set.whole (s.row place) _ _)
  sized (Pair place to r) f is c = with_rows f c.file to (s.row place) _ _
  sized (PairUnary place to from) f is c = with_rows f c.file to (s.row place) _ _
  sized (Move place to r) f is c =
      with_moved f c.file to (s.row place).swapped (elements f.k) _ _
      (held_are f c.file r.right (c.uses 1 K (omega arith)))
      (held_are f c.file r.left (c.uses 0 K (omega arith)))

  accesses : (op : Instruction) → IsListed s op → MatchOption (access s op) (Unit {0}) (λ a. Accesses (uses op) (defs op) a)
  accesses (Load r) is = (ltb-true r.base 8 (and_parts (nat_lt r.base 8) (nat_lt r.j 8) is.numbers).0, λ l. (0, omega arith, refl), λ l. cc)
  accesses (Store r) is = (ltb-true r.base 8 (and_parts (nat_lt r.base 8) (nat_lt r.j 8) is.numbers).0, λ l. cc, λ l. (0, omega arith, refl))
  accesses (Copy r) is = tt
  accesses _ is = tt

  -- there is a result for each def
  moved_two : (separated : Bool) (o : Option LaneType) (low high : List ℕ) → length (moved s.vector separated o low high) ≡ 2
  moved_two separated None low high = refl
  moved_two separated (Some ty) low high = refl

  counted : (op : Instruction) (held : List (List ℕ)) → IsListed s op → access s op ≡ None → length held ≡ length (uses op)
      → length (outcome s op held) ≡ length (defs op)
  counted (Load r) held is computes many = absurd (cc)
  counted (Store r) held is computes many = absurd (cc)
  counted (Move place to r) held is computes many = moved_two (s.row place).swapped _ _ _
  counted _ held is computes many = refl

  few : (op : Instruction) → IsListed s op → vector_count (uses op) + vector_count (defs op) ≤ 4
  few (Load r) is = omega arith
  few _ is = omega arith

  rename_uses : (op : Instruction) (old new : ℕ) → uses (renamed s op old new) ≡ map (λ r. renamed_register old new r) (uses op)
  rename_uses (Load r) old new = refl
  rename_uses _ old new = refl

  rename_ends : (to : Ends) (old new : ℕ) → is_fixed s old ≡ false
      → V (ends_renamed s old new to).low ∷ V (ends_renamed s old new to).high ∷ [] ≡ map (λ r. renamed_register old new r) (V to.low ∷ V to.high ∷ [])
  rename_ends to old new free = rw free refl

  rename_defs : (op : Instruction) (old new : ℕ) → is_fixed s old ≡ false → defs (renamed s op old new) ≡ map (λ r. renamed_register old new r) (defs op)
  rename_defs (Pair place to r) old new free = rename_ends to old new free
  rename_defs (PairUnary place to from) old new free = rename_ends to old new free
  rename_defs (Move place to r) old new free = rename_ends to old new free
  rename_defs _ old new free = refl

  rename_outcome : (op : Instruction) (old new : ℕ) (held : List (List ℕ)) → outcome s (renamed s op old new) held ≡ outcome s op held
  rename_outcome (Load r) old new held = refl
  rename_outcome _ old new held = refl

  rename_access : (op : Instruction) (old new : ℕ) → access s (renamed s op old new) ≡ option_map (λ a. renamed_access old new a) (access s op)
  rename_access (Load r) old new = refl
  rename_access _ old new = refl

  rename_cost : (op : Instruction) (old new : ℕ) → cost s (renamed s op old new) ≡ cost s op
  rename_cost (Load r) old new = refl
  rename_cost _ old new = refl

  all_uses : (op : Instruction) (f : ℕ → ℕ) → uses (renamed_all s op f) ≡ map (λ r. register_by f r) (uses op)
  all_uses (Load r) f = refl
  all_uses _ f = refl

  kept_name : (f : ℕ → ℕ) (n : ℕ) (b : Bool) → is_fixed s n ≡ b → KeepsFixed (is_fixed s) f → unless_fixed s f n ≡ f n
  kept_name f n true is keeps = rw is (sym (keeps n is))
  kept_name f n false is keeps = rw is refl

  all_ends : (to : Ends) (f : ℕ → ℕ) → KeepsFixed (is_fixed s) f
      → V (ends_by (unless_fixed s f) to).low ∷ V (ends_by (unless_fixed s f) to).high ∷ [] ≡ map (λ r. register_by f r) (V to.low ∷ V to.high ∷ [])
  all_ends to f keeps = rw (kept_name f to.low (is_fixed s to.low) refl keeps, kept_name f to.high (is_fixed s to.high) refl keeps) refl

  all_defs : (op : Instruction) (f : ℕ → ℕ) → KeepsFixed (is_fixed s) f → defs (renamed_all s op f) ≡ map (λ r. register_by f r) (defs op)
  all_defs (Pair place to r) f keeps = all_ends to f keeps
  all_defs (PairUnary place to from) f keeps = all_ends to f keeps
  all_defs (Move place to r) f keeps = all_ends to f keeps
  all_defs _ f keeps = refl

  all_outcome : (op : Instruction) (f : ℕ → ℕ) (held : List (List ℕ)) → outcome s (renamed_all s op f) held ≡ outcome s op held
  all_outcome (Load r) f held = refl
  all_outcome _ f held = refl

  all_access : (op : Instruction) (f : ℕ → ℕ) → access s (renamed_all s op f) ≡ option_map (λ a. access_by f a) (access s op)
  all_access (Load r) f = refl
  all_access _ f = refl

  all_cost : (op : Instruction) (f : ℕ → ℕ) → cost s (renamed_all s op f) ≡ cost s op
  all_cost (Load r) f = refl
  all_cost _ f = refl

  -- a new name for one that isn't fixed keeps those that are
  one_keeps : (old new : ℕ) → is_fixed s old ≡ false → KeepsFixed (is_fixed s) (λ n. renamed_vector old new n)
  one_keeps old new free n is = one_other (n == old) refl
    where
      one_other : (b : Bool) → (n == old) ≡ b → renamed_vector old new n ≡ n
      one_other true same = absurd (let e : n ≡ old = eqb-true n old same in let no : is_fixed s n ≡ false = rw e free in cc)
      one_other false other = rw other refl

  one_ends : (to : Ends) (old new : ℕ) → is_fixed s old ≡ false → ends_renamed s old new to ≡ ends_by (unless_fixed s (λ n. renamed_vector old new n)) to
  one_ends to old new free =
      let keeps = one_keeps old new free in
      rw (free, kept_name (λ n. renamed_vector old new n) to.low (is_fixed s to.low) refl keeps, kept_name (λ n. renamed_vector old new n) to.high (is_fixed s to.high) refl keeps) refl

  one_name : (op : Instruction) (old new : ℕ) → is_fixed s old ≡ false → renamed s op old new ≡ renamed_all s op (λ n. renamed_vector old new n)
  one_name (Pair place to r) old new free = ap (λ e. Pair place e (renamed_sources old new r)) (one_ends to old new free)
  one_name (PairUnary place to from) old new free = ap (λ e. PairUnary place e (renamed_vector old new from)) (one_ends to old new free)
  one_name (Move place to r) old new free = ap (λ e. Move place e (renamed_sources old new r)) (one_ends to old new free)
  one_name _ old new free = refl

  -- the names that are fixed stand behind those that an allocator hands out
  free : (n : ℕ) → n < s.names + 4 → is_fixed s n ≡ false
  free n h =
      ⊎_elim
      (λ (yes : s.style.packets ≡ true).
      let few = (set.free yes).0 in
      rw (yes, ne_eqb n 30 (λ e. absurd (omega arith)), ne_eqb n 31 (λ e. absurd (omega arith))) refl)
      (λ (no : s.style.packets ≡ false). rw no refl)
      (cases_Bool s.style.packets)

  inside : (n : ℕ) → is_fixed s n ≡ true → n < s.vectors
  inside n h =
      let parts = and_parts s.style.packets (n == 30 || n == 31) h in
      let many = (set.free parts.0).1 in
      ⊎_elim (λ (e : (n == 30) ≡ true). let is : n ≡ 30 = eqb-true n 30 e in omega arith) (λ (e : (n == 31) ≡ true). let is : n ≡ 31 = eqb-true n 31 e in omega arith) (or_cases (n == 30) (n == 31) parts.1)

  one_in : (n : ℕ) → n < s.vectors → All (λ r. IsRegisterOf s.vectors r) (V n ∷ [])
  one_in n h = All-from_recursion (λ r. IsRegisterOf s.vectors r) (V n ∷ []) (h, tt)

  none_in : All (λ r. IsRegisterOf s.vectors r) []
  none_in = All-from_recursion (λ r. IsRegisterOf s.vectors r) [] tt

  pub set_is_table : IsTable (table_of s) (IsListed s)
  set_is_table = record {
    sized = sized;
    whole = counted;
    few = few;
    some_bytes = let some = set.some_bytes in omega arith;
    few_bytes = set.few_bytes;
    load_over = λ to j h k. record { uses = none_in; defs = one_in to h };
    store_over = λ from j h k. record { uses = one_in from h; defs = none_in };
    rename_uses = λ op old new free other. rename_uses op old new;
    rename_defs = λ op old new free other. rename_defs op old new free;
    rename_outcome = rename_outcome;
    rename_access = rename_access;
    rename_cost = rename_cost;
    rename_all_uses = λ op f keeps. all_uses op f;
    rename_all_defs = all_defs;
    rename_all_outcome = all_outcome;
    rename_all_access = all_access;
    rename_all_cost = all_cost;
    rename_one = one_name;
    room = set.room;
    free = free;
    inside = inside;
    accesses = accesses;
    load_access = λ to j h. refl;
    store_access = λ from j h. refl;
    load_cost = λ to j. set.fixed_rows.load_cost;
    store_cost = λ from j. set.fixed_rows.store_cost;
    one_op = Texts.one_op (table_of s) (IsListed s) (lines s) s.jumps (lines_are s set) (texts_are s set);
    one_control = Texts.one_control (table_of s) (IsListed s) (lines s) s.jumps (lines_are s set) (texts_are s set);
    apart = Texts.apart (table_of s) (IsListed s) (lines s) s.jumps (lines_are s set) (texts_are s set);
    instruction = Texts.instruction (table_of s) (IsListed s) (lines s) s.jumps (lines_are s set) (texts_are s set);
    control_instruction = Texts.control_instruction (table_of s) (IsListed s) (lines s) s.jumps (lines_are s set) (texts_are s set);
  }
