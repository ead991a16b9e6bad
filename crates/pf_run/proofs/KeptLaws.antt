-- What a run leaves of the memory: every region where it was and as long, and those that may not be written as they were.
use Rattle.std.proofs.Common.{◌≡◌, ℕ, zero, suc, ◌+◌, ◌*◌, ◌<◌, ◌≤◌, List, [], ◌∷◌, length, set, get_or, Bool, true, false, ◌&&◌, Option, Some, None, refl, sym, subst, ◌∙◌, arith, length-append, length-take, length-drop}
use Rattle.std.specs.Prelude.{slice_get}
use Rattle.std.proofs.lemmas.Bool.Decides.{nat_tests}
use Rattle.std.proofs.lemmas.List.Quantifiers.{position-Some}
use Rattle.pf_ints.specs.declared.target.Target.{Target}
use Rattle.pf_machine.specs.declared.access.Access.{Access}
use Rattle.pf_machine.specs.declared.memory.Region.{Region}
use Rattle.pf_machine.specs.declared.control.Control.{Control}
use Rattle.pf_machine.specs.declared.control.Control.TheVariants.{LoadPtr, StorePtr, Imm, AddImm, AddReg, LoadByte, LoadHalf, StoreByte, StoreHalf, Compare, Below, Jump, Return}
use Rattle.pf_machine.specs.declared.code.Line.{Line}
use Rattle.pf_machine.specs.declared.code.Line.TheVariants.{Vector, Control as Controls}
use Rattle.pf_machine.specs.declared.code.Label.{Label}
use Rattle.pf_machine.specs.Meaning.Bytes.{bytes}
use Rattle.pf_machine.specs.Meaning.Memory.{holds, writable, stored, nowhere, with_bytes}
use Rattle.pf_machine.specs.Meaning.Tables.{Table}
use Rattle.pf_machine.specs.Meaning.MachineSteps.{State, Outcome, Continues, Returned, Trapped, Ended, follow, run, step, step_at, by_access, access_step, control_step, at_address, general_of, pointer_bytes, register_wrapped}

-- the region lies where it lay, and keeps its bytes where it may not be written
pub record Alike (r q : Region) : Type 0 where
  pub start : q.start ≡ r.start
  pub size : length q.bytes ≡ length r.bytes
  pub reads : q.reads ≡ r.reads
  pub writes : q.writes ≡ r.writes
  pub fixed : r.writes ≡ false → q.bytes ≡ r.bytes

pub alike : (r : Region) → Alike r r
alike r = record { start = refl; size = refl; reads = refl; writes = refl; fixed = λ _. refl }

pub alike_then : (r q s : Region) → Alike r q → Alike q s → Alike r s
alike_then r q s first second = record {
  start = second.start ∙ first.start;
  size = second.size ∙ first.size;
  reads = second.reads ∙ first.reads;
  writes = second.writes ∙ first.writes;
  fixed = λ no. second.fixed (first.writes ∙ no) ∙ first.fixed no;
}

-- so do all regions
abbrev pub AllAlike : List Region → List Region → Type 0
AllAlike [] [] = Unit {0}
AllAlike [] (q ∷ qs) = ⊥
AllAlike (r ∷ rs) [] = ⊥
AllAlike (r ∷ rs) (q ∷ qs) = Alike r q × AllAlike rs qs

pub all_alike : (rs : List Region) → AllAlike rs rs
all_alike [] = tt
all_alike (r ∷ rs) = (alike r, all_alike rs)

pub all_alike_then : (rs qs ss : List Region) → AllAlike rs qs → AllAlike qs ss → AllAlike rs ss
all_alike_then [] [] ss first second = second
all_alike_then [] (q ∷ qs) ss first second = absurd first
all_alike_then (r ∷ rs) [] ss first second = absurd first
all_alike_then (r ∷ rs) (q ∷ qs) [] first second = second
all_alike_then (r ∷ rs) (q ∷ qs) (s ∷ ss) first second = (alike_then r q s first.0 second.0, all_alike_then rs qs ss first.1 second.1)

pub alike_set : (rs : List Region) (k : ℕ) (q : Region) → k < length rs → Alike (get_or rs k nowhere) q → AllAlike rs (set rs k q)
alike_set [] k q within same = absurd (omega arith)
alike_set (r ∷ rs) zero q within same = (same, all_alike rs)
alike_set (r ∷ rs) (suc k) q within same = (alike r, alike_set rs k q (omega arith) same)

-- a store into a region
into_region : (r : Region) (address : ℕ) (new : List ℕ) → r.writes ≡ true → r.start ≤ address → address + length new ≤ r.start + length r.bytes → Alike r (with_bytes r address new)
into_region r address new may from to = record {
  start = refl;
  size = simp (length-append, length-take, length-drop) (omega arith);
  reads = refl;
  writes = refl;
  fixed = λ no. cc;
}

tests_both : (r : Region) (address n : ℕ) → r.writes && holds address n r ≡ true → (r.writes ≡ true) × (r.start ≤ address) × (address + n ≤ r.start + length r.bytes)
tests_both r address n passes = grind (arith, nat_tests)

pub stored_alike : (rs qs : List Region) (address : ℕ) (new : List ℕ) → stored rs address new ≡ Some qs → AllAlike rs qs
stored_alike rs qs address new is = by (writable rs address (length new)) refl
  where
    by : (o : Option ℕ) → writable rs address (length new) ≡ o → AllAlike rs qs
    by None e =
        let none : stored rs address new ≡ None = rw e refl in
        absurd (cc)
    by (Some k) e =
        let r = get_or rs k nowhere in
        let found = position-Some (λ q. q.writes && holds address (length new) q) rs k nowhere e in
        let both = tests_both r address (length new) found.1 in
        let after : stored rs address new ≡ Some (set rs k (with_bytes r address new)) = rw e refl in
        let same : set rs k (with_bytes r address new) ≡ qs = cc in
        subst (λ l. AllAlike rs l) same (alike_set rs k (with_bytes r address new) found.0 (into_region r address new both.0 both.1 both.2))

-- a step leaves memory so: where it goes on, to this state
abbrev pub KeepsMemory : List Region → Outcome → Type 0
KeepsMemory rs (Continues s) = AllAlike rs s.regions
KeepsMemory rs Returned = Unit {0}
KeepsMemory rs (Trapped address count) = Unit {0}

-- a load, and a store
load_keeps : (rs : List Region) (address count : ℕ) (next : List ℕ → State) (o : Option (List ℕ)) → ((held : List ℕ) → (next held).regions ≡ rs) → KeepsMemory rs (at_address address count next o)
load_keeps rs address count next None same = tt
load_keeps rs address count next (Some held) same = subst (λ l. AllAlike rs l) (sym (same held)) (all_alike rs)

store_keeps : (rs : List Region) (address count : ℕ) (next : List Region → State) (o : Option (List Region)) → ((qs : List Region) → (next qs).regions ≡ qs) → ((qs : List Region) → o ≡ Some qs → AllAlike rs qs) → KeepsMemory rs (at_address address count next o)
store_keeps rs address count next None same stores = tt
store_keeps rs address count next (Some qs) same stores = subst (λ l. AllAlike rs l) (sym (same qs)) (stores qs refl)

control_keeps : (target : Target) (labels : List Label) (end : ℕ) (c : Control) (s : State) → KeepsMemory s.regions (control_step target labels end c s)
control_keeps target labels end (LoadPtr to base entry) s = load_keeps s.regions _ _ _ _ (λ held. refl)
control_keeps target labels end (StorePtr base entry from) s = store_keeps s.regions _ _ _ _ (λ qs. refl) (λ qs is. stored_alike s.regions qs (register_wrapped target (general_of s base + 8 * entry)) (bytes (pointer_bytes target) (general_of s from)) is)
control_keeps target labels end (Imm to n) s = all_alike s.regions
control_keeps target labels end (AddImm to from down by) s = all_alike s.regions
control_keeps target labels end (AddReg to left right) s = all_alike s.regions
control_keeps target labels end (LoadByte to at) s = load_keeps s.regions _ _ _ _ (λ held. refl)
control_keeps target labels end (LoadHalf to at) s = load_keeps s.regions _ _ _ _ (λ held. refl)
control_keeps target labels end (StoreByte at from) s = store_keeps s.regions _ _ _ _ (λ qs. refl) (λ qs is. stored_alike s.regions qs (general_of s at) (bytes 1 (general_of s from)) is)
control_keeps target labels end (StoreHalf at from) s = store_keeps s.regions _ _ _ _ (λ qs. refl) (λ qs is. stored_alike s.regions qs (general_of s at) (bytes 2 (general_of s from)) is)
control_keeps target labels end (Compare left right) s = all_alike s.regions
control_keeps target labels end (Below label) s = all_alike s.regions
control_keeps target labels end (Jump label) s = all_alike s.regions
control_keeps target labels end Return s = tt

access_keeps : (target : Target) (size : ℕ) (a : Access) (s : State) (load : Bool) → a.load ≡ load → KeepsMemory s.regions (access_step target size a s)
access_keeps target size a s true is = rw is (load_keeps s.regions _ _ _ _ (λ held. refl))
access_keeps target size a s false is = rw is (store_keeps s.regions _ _ _ _ (λ qs. refl) (λ qs is. stored_alike s.regions qs _ _ is))

module _ {I O : Type 0} (t : Table O) (code : List (Line I O)) (labels : List Label) where
  op_keeps : (op : O) (s : State) (o : Option Access) → KeepsMemory s.regions (by_access t op s o)
  op_keeps op s None = all_alike s.regions
  op_keeps op s (Some a) = access_keeps t.target t.vector a s a.load refl

  line_keeps : (s : State) (o : Option (Line I O)) → KeepsMemory s.regions (step_at t labels (length code) s o)
  line_keeps s None = tt
  line_keeps s (Some (Vector op)) = op_keeps op s (t.access op)
  line_keeps s (Some (Controls c)) = control_keeps t.target labels (length code) c s

  pub step_keeps : (s : State) → KeepsMemory s.regions (step t code labels s)
  step_keeps s = line_keeps s (slice_get code s.at)

  -- a row that returns
  pub run_keeps : (n : ℕ) (s last : State) → run t code labels n s ≡ Ended last → AllAlike s.regions last.regions
  unfolding run
  run_keeps zero s last ends = absurd (cc)
  run_keeps (suc n) s last ends = by (step t code labels s) (step_keeps s) ends (λ next. run_keeps n next last)
    where
      by : (o : Outcome) → KeepsMemory s.regions o → follow (λ next. run t code labels n next) s o ≡ Ended last → ((next : State) → run t code labels n next ≡ Ended last → AllAlike next.regions last.regions) → AllAlike s.regions last.regions
      by (Continues next) keeps ends more = all_alike_then s.regions next.regions last.regions keeps (more next ends)
      by Returned keeps ends more =
          let same : s.regions ≡ last.regions = cc in
          subst (λ l. AllAlike s.regions l) same (all_alike s.regions)
      by (Trapped address count) keeps ends more = absurd (cc)
