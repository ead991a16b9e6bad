-- Operands at the marks of a row, and registers that are written and read back.
use Rattle.std.proofs.Common.{◌≡◌, ℕ, zero, suc, ◌*◌, ◌%◌, ◌^◌, ◌<◌, ◌≤◌, List, [], ◌∷◌, Bool, true, false, Option, Some, None, All, refl, arith, ⊎_elim, if◌then◌else◌}
use Rattle.std.specs.Prelude.{nat_lt, ◌&&◌, ◌||◌, ◌==◌}
use Rattle.std.proofs.lemmas.Bool.{ltb-true, lt-ltb, eqb-true, ne_eqb, and_from, and_parts, cases_eq}
use Rattle.std.proofs.Math.Nat.{mul-div_cancel_left, mul-le-mul_right}
use Rattle.pf_machine.specs.declared.registers.Reg.{Reg}
use Rattle.pf_machine.specs.declared.registers.Reg.TheVariants.{V, K, Q}
use Rattle.pf_machine.specs.Meaning.RegisterFiles.{IsRegisterOf}
use Rattle.pf_lanes.specs.declared.registers.Transfer.{Transfer}
use Rattle.pf_frames.specs.Meaning.Frames.{limit, are_operands}
use Rattle.pf_tables.specs.Meaning.Sets.{InstructionSet, general}
use Rattle.pf_tables.specs.Meaning.Instructions.{constant_shape, constant_limit}
use Rattle.pf_tables.specs.Meaning.Lines.{role, transfer, is_constant, constant_numbers}
use Rattle.pf_tables.specs.Meaning.Laws.{suit, sorts, is_other_register}

-- numbers that may stand at marks for registers, and at marks for numbers
abbrev pub end_of : Bool → ℕ
end_of true = 9
end_of false = 2 ^ 32

abbrev pub Fit : List Bool → List ℕ → Type 0
Fit [] [] = Unit {0}
Fit [] (n ∷ ns) = ⊥
Fit (sort ∷ sorts) [] = ⊥
Fit (sort ∷ sorts) (n ∷ ns) = (n < end_of sort) × Fit sorts ns

mark_fits : (sort : Bool) (m n : ℕ) → (sort || m == 0) ≡ true → n < end_of sort → nat_lt n (limit m) ≡ true
mark_fits true zero n h less = lt-ltb n (2 ^ 32) (let small : n < 9 = less in omega arith)
mark_fits true (suc m) n h less = lt-ltb n 9 less
mark_fits false m n h less = rw (eqb-true m 0 h) (lt-ltb n (2 ^ 32) less)

pub suited_fit : (sorts : List Bool) (ms ns : List ℕ) → suit sorts ms ≡ true → Fit sorts ns → are_operands ms ns ≡ true
suited_fit [] [] [] h fit = refl
suited_fit [] [] (n ∷ ns) h fit = absurd fit
suited_fit [] (m ∷ ms) ns h fit = absurd (cc h)
suited_fit (sort ∷ sorts) [] ns h fit = absurd (cc h)
suited_fit (sort ∷ sorts) (m ∷ ms) [] h fit = absurd fit
suited_fit (sort ∷ sorts) (m ∷ ms) (n ∷ ns) h fit =
    let parts = and_parts (sort || m == 0) (suit sorts ms) h in
    and_from (nat_lt n (limit m)) (are_operands ms ns) (mark_fits sort m n parts.0 fit.0) (suited_fit sorts ms ns parts.1 fit.1)

-- the names of vectors are numbers of 32 bits
abbrev pub Short : List Reg → Type 0
Short [] = Unit {0}
Short (V n ∷ rs) = (n < 2 ^ 32) × Short rs
Short (K ∷ rs) = Short rs
Short (Q ∷ rs) = Short rs

pub short : (many : ℕ) → many ≤ 32 → (rs : List Reg) → All (λ r. IsRegisterOf many r) rs → Short rs
short many few [] all = tt
short many few (V n ∷ rs) all = (let h : n < many = all 0 K (omega arith) in omega arith, short many few rs (λ k d less. all (suc k) d (omega arith)))
short many few (K ∷ rs) all = short many few rs (λ k d less. all (suc k) d (omega arith))
short many few (Q ∷ rs) all = short many few rs (λ k d less. all (suc k) d (omega arith))

-- the general register of a role
abbrev number_of : Bool → ℕ → ℕ
number_of packets n = if packets && n == 7 then 8 else n

abbrev role_of : Bool → ℕ → ℕ
role_of packets n = (if packets && n == 8 then 7 else n) % 256

number_fits : (packets : Bool) (n : ℕ) → n < 8 → number_of packets n < 9
number_fits false n h = omega arith
number_fits true n h = ⊎_elim (λ (e : n ≡ 7). rw e (omega arith)) (λ (ne : n ≡ 7 → ⊥). rw (ne_eqb n 7 ne) (omega arith)) (cases_eq n 7)

number_back : (packets : Bool) (n : ℕ) → n < 8 → role_of packets (number_of packets n) ≡ n
number_back false n h = omega arith
number_back true n h =
    ⊎_elim
    (λ (e : n ≡ 7). rw e refl)
    (λ (ne : n ≡ 7 → ⊥). let small : n % 256 ≡ n = omega arith in rw (ne_eqb n 7 ne, ne_eqb n 8 (λ e. absurd (omega arith)), small) refl)
    (cases_eq n 7)

pub general_fits : (s : InstructionSet) (n : ℕ) → n < 8 → general s n < 9
general_fits s n h = number_fits s.style.packets n h

pub role_back : (s : InstructionSet) (n : ℕ) → n < 8 → role s (general s n) ≡ n
role_back s n h = number_back s.style.packets n h

-- a number of 8 bits
pub low_same : (n : ℕ) → n < 256 → n % 256 ≡ n
low_same n h = omega arith

-- the operand in memory of a load or a store
pub transfer_back : (s : InstructionSet) (r : Transfer) → 1 ≤ s.style.unit → r.base < 8 → r.j < 8 → transfer s r.vector (general s r.base) (s.style.unit * r.j) ≡ r
transfer_back s r unit base j = rw (role_back s r.base base, mul-div_cancel_left r.j unit, low_same r.j (omega arith)) refl

pub offset_fits : (unit j : ℕ) → unit ≤ 128 → j < 8 → unit * j < 2 ^ 32
offset_fits unit j h less = let least : unit * j ≤ 128 * j = mul-le-mul_right j h in omega arith

-- the constant register has a number that fits a mark, and is none of a role's
pub constant_short : (constant : Option ℕ) (n : ℕ) → nat_lt n (constant_limit constant) ≡ true → n < 2 ^ 32
constant_short None n h = let small : n < 2 ^ 16 = ltb-true n (2 ^ 16) h in omega arith
constant_short (Some k) n h = ltb-true n (2 ^ 32) h

pub constant_fits : (s : InstructionSet) (constant : Option ℕ) (packets : Bool) (n : ℕ) → is_other_register packets constant ≡ true → n < 2 ^ 32 → Fit (sorts s.style (constant_shape constant)) (constant_numbers constant n)
constant_fits s None packets n h less = (less, tt)
constant_fits s (Some k) true n h less = rw (eqb-true k 7 h) (omega arith, (less, tt))
constant_fits s (Some k) false n h less = rw (eqb-true k 8 h) (omega arith, (less, tt))

pub no_constant : (constant : Option ℕ) (packets : Bool) (n : ℕ) → is_other_register packets constant ≡ true → n < 8 → is_constant constant (number_of packets n) ≡ false
no_constant None packets n h less = refl
no_constant (Some k) true n h less =
    rw (eqb-true k 7 h) (⊎_elim (λ (e : n ≡ 7). rw e refl) (λ (ne : n ≡ 7 → ⊥). rw (ne_eqb n 7 ne) (ne_eqb n 7 ne)) (cases_eq n 7))
no_constant (Some k) false n h less = rw (eqb-true k 8 h) (ne_eqb n 8 (λ e. absurd (omega arith)))
