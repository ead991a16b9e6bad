-- For which operator and type a rule is, by its key.
use Rattle.std.specs.Prelude.{ℕ, ℤ, pos, ◌+◌, ◌==◌, Bool, false, true, ◌&&◌, ◌||◌, List, [], ◌∷◌, ◌++◌, Option, Some, None}
use denote.Enum.Declared.{tag_of}
use Rattle.pf_ints.specs.declared.lane.LaneType.{LaneType}
use Rattle.pf_values.specs.contracts.op.Op.{the_type as op_type}
use Rattle.pf_values.specs.declared.op.Op.{Op}
use Rattle.pf_values.specs.Meaning.Terms.{same_type}
use Rattle.pf_match.specs.declared.key.RuleKey.{RuleKey}

-- the place of an operator among all
abbrev pub place_of : Op → ℕ
place_of op = tag_of op_type op

abbrev pub has_place : ℕ → Option Op → Bool
has_place place None = false
has_place place (Some op) = place_of op == place

abbrev pub has_type : LaneType → List LaneType → Bool
has_type ty [] = false
has_type ty (t ∷ ts) = same_type ty t || has_type ty ts

abbrev pub is_for : ℕ → LaneType → RuleKey → Bool
is_for place ty key = has_place place key.op && has_type ty key.types

abbrev pub one_if : Bool → ℤ → List ℤ
one_if true n = n ∷ []
one_if false n = []

-- the numbers of the rules for an operator and a type, the first rule being rule n
abbrev pub numbers_for : ℕ → LaneType → ℕ → List RuleKey → List ℤ
numbers_for place ty n [] = []
numbers_for place ty n (key ∷ keys) = one_if (is_for place ty key) (pos n) ++ numbers_for place ty (n + 1) keys
