-- The shapes of control instructions alone.
use Rattle.std.specs.Prelude.{Bool, true, false}
use Rattle.pf_tables.specs.declared.row.Shape.{Shape}
use Rattle.pf_tables.specs.declared.row.Shape.TheVariants as Shapes

abbrev pub is_control : Shape → Bool
is_control Shapes.LoadPointer = true
is_control Shapes.StorePointer = true
is_control Shapes.Add = true
is_control Shapes.Sub = true
is_control Shapes.AddPages = true
is_control Shapes.AddRegister = true
is_control Shapes.LoadByte = true
is_control Shapes.LoadHalf = true
is_control Shapes.StoreByte = true
is_control Shapes.StoreHalf = true
is_control Shapes.CompareNumbers = true
is_control Shapes.Return = true
is_control shape = false
