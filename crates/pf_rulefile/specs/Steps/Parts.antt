-- What is kept of a part of a side, or of several operands, while it is read.
use Rattle.std.specs.Prelude.{ℕ, ◌+◌, ◌^◌, ◌-◌, min, nat_le, ◌==◌, List, [], ◌∷◌, ◌++◌, Bool, true, false, not, ◌||◌, if◌then◌else◌, Option, Some, None, slice_index_or}
use Rattle.pf_values.specs.declared.op.Op.{Op}
use Rattle.pf_laneops.specs.declared.lane_name.LaneName.{LaneName}
use Rattle.pf_rules.specs.declared.number.Amount.{Amount}
use Rattle.pf_rules.specs.declared.number.Number.{Number}
use Rattle.pf_rules.specs.declared.pattern.PatType.{PatType}
use Rattle.pf_rules.specs.declared.pattern.Pattern.{Pattern}
use Rattle.pf_rules.specs.declared.pattern.Pattern.TheVariants.{Var, Const, Node, Lane}
use Rattle.pf_rules.specs.declared.rule.VarDecl.{VarDecl}
use Rattle.pf_rules.specs.Meaning.Rules.{is_free_amount, is_free}
use Rattle.pf_rulefile.specs.declared.part.Part.{Part}
use Rattle.pf_rulefile.specs.Meaning.Words.{is_some}
use Rattle.pf_rulefile.specs.Meaning.Says.{place_in}
use Rattle.pf_rulefile.specs.Steps.SideReads.{Algebra}

abbrev pub only : ℕ → List Bool
only n = (n == 0) ∷ (n == 1) ∷ (n == 2) ∷ (n == 3) ∷ (n == 4) ∷ (n == 5) ∷ (n == 6) ∷ (n == 7) ∷ []

abbrev pub none_used : List Bool
none_used = false ∷ false ∷ false ∷ false ∷ false ∷ false ∷ false ∷ false ∷ []

abbrev pub used : List Bool → ℕ → Bool
used a n = slice_index_or a n false

abbrev pub either : List Bool → List Bool → ℕ → Bool
either a b n = used a n || used b n

abbrev pub both_used : List Bool → List Bool → List Bool
both_used a b = either a b 0 ∷ either a b 1 ∷ either a b 2 ∷ either a b 3 ∷ either a b 4 ∷ either a b 5 ∷ either a b 6 ∷ either a b 7 ∷ []

abbrev pub one : Pattern → Option (List Pattern)
one p = Some (p ∷ [])

abbrev pub name_by : Option ℕ → Part
name_by (Some n) = record { nodes = 1; used = only n; unknown = false; bare = true; has_k = false; patterns = one (Var n) }
name_by None = record { nodes = 1; used = none_used; unknown = true; bare = true; has_k = false; patterns = None }

abbrev pub name_part : List VarDecl → List ℕ → Part
name_part vars w = name_by (place_in 0 vars w)

abbrev pub typed_part : Number → PatType → Part
typed_part n ty = record { nodes = 1; used = none_used; unknown = false; bare = true; has_k = not (is_free n); patterns = one (Const n ty) }

-- the sum, or 2^64 - 1 where it is more
abbrev pub sum_of : ℕ → ℕ → ℕ
sum_of a b = min (a + b) (2 ^ 64 - 1)

abbrev pub both_patterns : ℕ → Option (List Pattern) → Option (List Pattern) → Option (List Pattern)
both_patterns nodes (Some a) (Some b) = if nat_le nodes 64 then Some (a ++ b) else None
both_patterns nodes _ _ = None

abbrev pub joined_part : Part → Part → Part
joined_part a b = record {
  nodes = sum_of a.nodes b.nodes;
  used = both_used a.used b.used;
  unknown = a.unknown || b.unknown;
  bare = false;
  has_k = a.has_k || b.has_k;
  patterns = both_patterns (sum_of a.nodes b.nodes) a.patterns b.patterns;
}

abbrev pub node_items : ℕ → Op → Option PatType → Amount → Option (List Pattern) → Option (List Pattern)
node_items nodes op to k (Some args) = if nat_le nodes 64 then one (Node op to k args) else None
node_items nodes op to k None = None

abbrev pub node_part : Op → Option PatType → Amount → Part → Part
node_part op to k args = record {
  nodes = sum_of args.nodes 1;
  used = args.used;
  unknown = args.unknown;
  bare = false;
  has_k = args.has_k || not (is_free_amount k);
  patterns = node_items (sum_of args.nodes 1) op to k args.patterns;
}

abbrev pub lane_items : ℕ → Option LaneName → Option PatType → Amount → Option (List Pattern) → Option (List Pattern)
lane_items nodes (Some op) to k (Some args) = if nat_le nodes 64 then one (Lane op to k args) else None
lane_items nodes _ to k _ = None

abbrev pub lane_part : Option LaneName → Option PatType → Amount → Part → Part
lane_part op to k args = record {
  nodes = sum_of args.nodes 1;
  used = args.used;
  unknown = args.unknown || not (is_some op);
  bare = false;
  has_k = args.has_k || not (is_free_amount k);
  patterns = lane_items (sum_of args.nodes 1) op to k args.patterns;
}

-- what is kept, as an algebra
abbrev pub parts : List VarDecl → Algebra Part
parts vars = record { name = name_part vars; typed = typed_part; join = joined_part; node = node_part; lane = lane_part }
