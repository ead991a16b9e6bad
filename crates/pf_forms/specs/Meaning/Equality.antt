-- A test of whether two forms are equal.
use Rattle.std.specs.Prelude.{Bool, false, not, ◌&&◌, ◌==◌, if◌then◌else◌}
use Rattle.std.specs.Ordering.{int_eq}
use Rattle.pf_ints.specs.declared.lane.LaneType.{LaneType}
use Rattle.pf_ints.specs.Meaning.Lanes.{lane_width}
use Rattle.pf_forms.specs.Meaning.Shapes.{Shape, Var, Num, Pow, Add, Sub, Mul, FloorDiv, Min, Max, Abs, Sel, Wrap, Sat}

abbrev pub same_type : LaneType → LaneType → Bool
same_type t u = (if t.signed then u.signed else not u.signed) && (lane_width t == lane_width u)

abbrev pub same : Shape → Shape → Bool
same (Var m) (Var n) = m == n
same (Num m) (Num n) = int_eq m n
same (Pow d) (Pow e) = d == e
same (Add u v) (Add x y) = same u x && same v y
same (Sub u v) (Sub x y) = same u x && same v y
same (Mul u v) (Mul x y) = same u x && same v y
same (FloorDiv u d) (FloorDiv x e) = (d == e) && same u x
same (Min u v) (Min x y) = same u x && same v y
same (Max u v) (Max x y) = same u x && same v y
same (Abs u) (Abs x) = same u x
same (Sel a b u v) (Sel c d x y) = same a c && (same b d && (same u x && same v y))
same (Wrap s u) (Wrap t x) = same_type s t && same u x
same (Sat s u) (Sat t x) = same_type s t && same u x
same _ _ = false
