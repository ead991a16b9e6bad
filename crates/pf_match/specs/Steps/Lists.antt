-- The lists of an index.
use Rattle.std.specs.Prelude.{◌≡◌, ℕ, ℤ, if◌then◌else◌, List, [], slice_get, Option, Some, None}
use Rattle.pf_ints.specs.declared.lane.LaneType.{LaneType}
use Rattle.pf_ints.specs.declared.lane.Bits.{Bits}
use Rattle.pf_ints.specs.declared.lane.Bits.TheVariants.{Eight, Sixteen, ThirtyTwo}
use Rattle.pf_values.specs.declared.op.Op.{Op}
use Rattle.pf_values.specs.declared.term.Term.{Term}
use Rattle.pf_values.specs.Meaning.Terms.{stated_type}
use Rattle.pf_match.specs.declared.key.RuleKey.{RuleKey}
use Rattle.pf_match.specs.declared.lists.TypeLists.{TypeLists}
use Rattle.pf_match.specs.Meaning.Candidates.{term_root}
use Rattle.pf_match.specs.Steps.Keys.{place_of, numbers_for}

abbrev pub by_bits : {A : Type 0} → Bits → A → A → A → A
by_bits Eight a b c = a
by_bits Sixteen a b c = b
by_bits ThirtyTwo a b c = c

abbrev pub list_of : TypeLists → LaneType → List ℤ
list_of l ty = if ty.signed then by_bits ty.bits l.i8s l.i16s l.i32s else by_bits ty.bits l.u8s l.u16s l.u32s

abbrev pub list_or_none : LaneType → Option TypeLists → List ℤ
list_or_none ty None = []
list_or_none ty (Some l) = list_of l ty

-- the list at a place, which is empty where no lists were made
abbrev pub lists_at : List TypeLists → ℕ → LaneType → List ℤ
lists_at ls place ty = list_or_none ty (slice_get ls place)

-- at each place there are the numbers of the rules for that operator, by their types
pub record IsIndex (keys : List RuleKey) (ls : List TypeLists) (none : List ℤ) : Type 0 where
  pub lists : (place : ℕ) (ty : LaneType) → lists_at ls place ty ≡ numbers_for place ty 0 keys
  pub empty : none ≡ []

abbrev pub numbers_at : List RuleKey → LaneType → Option Op → List ℤ
numbers_at keys ty None = []
numbers_at keys ty (Some op) = numbers_for (place_of op) ty 0 keys

abbrev pub found : List RuleKey → Term → List ℤ
found keys t = numbers_at keys (stated_type t) (term_root t)
