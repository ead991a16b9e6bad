-- How numbers are read from the front of tokens. No sum is read that has more parts than a number that is given.
use Rattle.std.specs.Prelude.{◌≡◌, ℕ, zero, suc, ℤ, pos, List, [], ◌∷◌, Bool, true, false, if◌then◌else◌, Option, Some, None, option_map, option_and_then, Result, Ok, Err, codes}
use Rattle.std.specs.Borrow.{Bor}
use Rattle.std.specs.Str.{bytes_eq}
use Rattle.pf_rules.specs.declared.number.LinOf.{LinOf}
use Rattle.pf_rules.specs.declared.number.LinOf.TheVariants as of
use Rattle.pf_rules.specs.declared.number.LinPart.{LinPart}
use Rattle.pf_rules.specs.declared.number.Amount.{Amount}
use Rattle.pf_rules.specs.declared.number.Amount.TheVariants as amount
use Rattle.pf_rules.specs.declared.number.NumberItem.TheVariants as item
use Rattle.pf_rules.specs.declared.number.NumberPart.{NumberPart}
use Rattle.pf_rules.specs.declared.number.Number.{Number}
use Rattle.pf_rulefile.specs.declared.stop.Stop.{Stop}
use Rattle.pf_rulefile.specs.declared.stop.Stop.TheVariants.{Syntax, Memory}
use Rattle.pf_rulefile.specs.Meaning.Tokens.{tokens, int_of}
use Rattle.pf_rulefile.specs.Steps.Fronts.{after, sign_by}
use Rattle.pf_rulefile.specs.Meaning.Grammar.{sum_sign, unit_of, lin, plain_amount, part, plain_item}

-- the answer is what is read and what follows it
abbrev pub Gives : {A : Type 0} → Result (A × Bor (List ℕ)) Stop → Option (A × List (List ℕ)) → Type 0
Gives (Ok x) answer = answer ≡ Some (x.0, tokens x.1.now)
Gives (Err Syntax) answer = answer ≡ None
Gives (Err Memory) answer = Unit {0}

abbrev pub then_read : {A B : Type 0} → Option (A × List (List ℕ)) → (A → List (List ℕ) → Option B) → Option B
then_read None f = None
then_read (Some p) f = f p.0 p.1

-- ---- sums: parts with signs between them, which tell of the next part whether it is taken away
abbrev pub first_by : List (List ℕ) → Option (List (List ℕ)) → Bool × List (List ℕ)
first_by ts (Some us) = (true, us)
first_by ts None = (false, ts)

-- whether the first part is taken away, and the tokens from it on
abbrev pub first_sign : List (List ℕ) → Bool × List (List ℕ)
first_sign ts = first_by ts (after (codes "-") ts)

-- a part, and the others where a sign follows
abbrev pub sum_on : {A : Type 0} → (Bool → List (List ℕ) → Option (List A × List (List ℕ))) → A → List (List ℕ) → Option (Bool × List (List ℕ)) → Option (List A × List (List ℕ))
sum_on more a ts None = Some (a ∷ [], ts)
sum_on more a ts (Some s) = option_map (λ p. (a ∷ p.0, p.1)) (more s.0 s.1)

abbrev pub sum_read : {A : Type 0} → (List (List ℕ) → Option (Bool × List (List ℕ))) → (Bool → List (List ℕ) → Option (A × List (List ℕ))) → ℕ → Bool → List (List ℕ) → Option (List A × List (List ℕ))
sum_read sign part zero minus ts = None
sum_read sign part (suc most) minus ts = then_read (part minus ts) (λ a us. sum_on (sum_read sign part most) a us (sign us))

abbrev pub signed_read : {A : Type 0} → (Bool → List (List ℕ) → Option (A × List (List ℕ))) → ℕ → List (List ℕ) → Option (List A × List (List ℕ))
signed_read part most ts = sum_read (sign_by sum_sign) part most (first_sign ts).0 (first_sign ts).1

-- ---- linear amounts
abbrev pub unit_read : Bool → ℤ → List (List ℕ) → Option (LinPart × List (List ℕ))
unit_read minus times ts = option_map (λ u. (lin minus times u.0, u.1)) (sign_by unit_of ts)

abbrev pub times_by : Bool → ℤ → List (List ℕ) → Option (List (List ℕ)) → Option (LinPart × List (List ℕ))
times_by minus times ts None = Some (lin minus times of.One, ts)
times_by minus times ts (Some us) = unit_read minus times us

abbrev pub lin_by : Bool → Option LinOf → Option ℤ → List (List ℕ) → Option (LinPart × List (List ℕ))
lin_by minus (Some u) n ts = Some (lin minus (pos 1) u, ts)
lin_by minus None None ts = None
lin_by minus None (Some n) ts = times_by minus n ts (after (codes "*") ts)

abbrev pub lin_read : Bool → List (List ℕ) → Option (LinPart × List (List ℕ))
lin_read minus [] = None
lin_read minus (t ∷ ts) = lin_by minus (unit_of t) (int_of t) ts

abbrev pub linear_read : ℕ → List (List ℕ) → Option (Amount × List (List ℕ))
linear_read most ts = then_read (signed_read lin_read most ts) (λ ps us. option_map (λ vs. (amount.Linear ps, vs)) (after (codes ")") us))

-- with round brackets at most so deep
abbrev pub linear_at : ℕ → ℕ → List (List ℕ) → Option (Amount × List (List ℕ))
linear_at most zero ts = None
linear_at most (suc depth) ts = linear_read most ts

abbrev pub exponent_read : ℕ → ℕ → List (List ℕ) → Option (Amount × List (List ℕ))
exponent_read most depth [] = None
exponent_read most depth (t ∷ ts) = if bytes_eq t (codes "(") then linear_at most depth ts else option_map (λ a. (a, ts)) (plain_amount t)

-- ---- numbers
abbrev pub power_read : ℕ → ℕ → Bool → ℤ → List (List ℕ) → Option (NumberPart × List (List ℕ))
power_read most depth minus times ts = then_read (exponent_read most depth ts) (λ e us. Some (part minus (item.Power times e), us))

abbrev pub plain_part : Bool → List (List ℕ) → Option (NumberPart × List (List ℕ))
plain_part minus ts = option_map (λ i. (part minus i.0, i.1)) (sign_by plain_item ts)

abbrev pub behind_base : List (List ℕ) → Option (List (List ℕ))
behind_base ts = option_and_then (after (codes "^")) (after (codes "2") ts)

abbrev pub times_at : Option ℤ → List (List ℕ) → Option (ℤ × List (List ℕ))
times_at None ts = None
times_at (Some n) ts = option_map (λ us. (n, us)) (after (codes "*") ts)

abbrev pub behind_times : List (List ℕ) → Option (ℤ × List (List ℕ))
behind_times [] = None
behind_times (t ∷ ts) = times_at (int_of t) ts

abbrev pub multiple_by : ℕ → ℕ → Bool → ℤ → Option (List (List ℕ)) → Option (NumberPart × List (List ℕ))
multiple_by most depth minus n None = None
multiple_by most depth minus n (Some us) = power_read most depth minus n us

abbrev pub item_by : ℕ → ℕ → Bool → List (List ℕ) → Option (List (List ℕ)) → Option (ℤ × List (List ℕ)) → Option (NumberPart × List (List ℕ))
item_by most depth minus ts (Some us) n = power_read most depth minus (pos 1) us
item_by most depth minus ts None (Some p) = multiple_by most depth minus p.0 (behind_base p.1)
item_by most depth minus ts None None = plain_part minus ts

abbrev pub item_read : ℕ → ℕ → Bool → List (List ℕ) → Option (NumberPart × List (List ℕ))
item_read most depth minus ts = item_by most depth minus ts (behind_base ts) (behind_times ts)

abbrev pub number_of : List NumberPart → Number
number_of ps = record { parts = ps }

abbrev pub number_read : ℕ → ℕ → List (List ℕ) → Option (Number × List (List ℕ))
number_read most depth ts = then_read (signed_read (item_read most depth) most ts) (λ ps us. Some (number_of ps, us))
