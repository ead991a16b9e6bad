-- Regions that stand one behind another are a memory, and a table in front is the table of a row.
use Rattle.std.proofs.Common.{◌≡◌, refl, sym, ap, subst, ◌∙◌, ℕ, ◌+◌, ◌-◌, ◌^◌, ◌<◌, ◌≤◌}
use Rattle.std.proofs.Common.{Bool, true, ◌==◌, ltb, eq-eqb, List, [], ◌∷◌, length, take, drop, None, All, inl, arith}
use Rattle.std.specs.Prelude.{slice_get, slice_index_or, position, Some}
use Rattle.std.proofs.lemmas.List.{take_rest}
use Rattle.std.proofs.lemmas.Bool.{and_from, cond-true, lt-ltb}
use Rattle.std.proofs.lemmas.List.Elements.{All-nil, All-cons, All-weaker}
use Rattle.std.proofs.lemmas.List.Kept.{AllPairs-cons}
use Rattle.pf_machine.specs.declared.memory.Region.{Region}
use Rattle.pf_machine.specs.Meaning.Machines.{HasTable, IsMemory, is_table}
use Rattle.pf_machine.specs.Meaning.Memory.{Apart}

pub no_memory : IsMemory []
no_memory = record { apart = λ i j d below inside. absurd (omega arith); low = All-nil (λ r. r.start + length r.bytes < 2 ^ 31) }

pub more_memory : (r : Region) (rs : List Region) (end : ℕ) → r.start + length r.bytes ≡ end → end < 2 ^ 31
    → All (λ s. end ≤ s.start) rs → IsMemory rs → IsMemory (r ∷ rs)
more_memory r rs end is low behind rest =
    record {
      apart = AllPairs-cons Apart r rs (All-weaker (λ s. end ≤ s.start) (Apart r) (λ s after. inl (omega arith)) rs behind) rest.apart;
      low = All-cons (λ s. s.start + length s.bytes < 2 ^ 31) r rs (omega arith) rest.low;
    }

pub front_memory : (rs : List Region) (r : Region) (end : ℕ) → 1 ≤ length rs → r ≡ slice_index_or rs 0 r → r.start + length r.bytes ≡ end → end < 2 ^ 31
    → All (λ s. end ≤ s.start) (take (length rs - 1) (drop 1 rs)) → IsMemory (take (length rs - 1) (drop 1 rs)) → IsMemory rs
front_memory [] r end some is ends low behind others = absurd (omega (arith, some))
front_memory (first ∷ rest) r end some is ends low behind others =
    let whole : take (length (first ∷ rest) - 1) (drop 1 (first ∷ rest)) ≡ rest = take_rest (first ∷ rest) 1 in
    let same : r ≡ first = is in
    let end_is : first.start + length first.bytes ≡ end = ap (λ x. x.start + length x.bytes) (sym same) ∙ ends in
    more_memory first rest end end_is low (subst (All (λ s. end ≤ s.start)) whole behind) (subst IsMemory whole others)

first_found : (p : Region → Bool) (r : Region) (rs : List Region) → p r ≡ true → position p (r ∷ rs) ≡ Some 0
first_found p r rs passes =
    let inside : 0 < length (r ∷ rs) = omega arith in
    rw passes (cond-true (ltb 0 (length (r ∷ rs))) (Some 0) None (lt-ltb 0 (length (r ∷ rs)) inside))

pub first_table : (regions : List Region) (r : Region) (table size : ℕ) → slice_get regions 0 ≡ Some r → r.start ≡ table → length r.bytes ≡ size
    → HasTable regions table size
first_table [] r table size there start long = absurd (cc)
first_table (first ∷ rest) r table size there start long =
    let same : first ≡ r = cc in
    let start_is : (first.start == table) ≡ true = eq-eqb first.start table (ap (λ x. x.start) same ∙ start) in
    let size_is : (length first.bytes == size) ≡ true = eq-eqb (length first.bytes) size (ap (λ x. length x.bytes) same ∙ long) in
    let front : is_table table size first ≡ true = and_from (first.start == table) (length first.bytes == size) start_is size_is in
    rw (first_found (is_table table size) first rest front) refl
