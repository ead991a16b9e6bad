-- The rows that each table has at the same place, from one computed list.
use Rattle.std.proofs.Common.{◌≡◌, ℕ, List, [], ◌∷◌, map, ap, get_or, true, None}
use Rattle.pf_tables.specs.declared.row.Shape.{Shape}
use Rattle.pf_tables.specs.declared.row.Shape.TheVariants as Shapes
use Rattle.pf_tables.specs.declared.row.place.TheConstants as Places
use Rattle.pf_tables.specs.Meaning.Sets.{InstructionSet}
use Rattle.pf_tables.specs.Meaning.Laws.{HasFixedRows}

abbrev pub fixed_shapes : List Shape
fixed_shapes =
    Shapes.LoadPointer ∷ Shapes.StorePointer ∷ Shapes.SetNumber ∷ Shapes.Add ∷ Shapes.Sub ∷ Shapes.AddRegister ∷ Shapes.LoadByte ∷ Shapes.LoadHalf
    ∷ Shapes.StoreByte ∷ Shapes.StoreHalf ∷ Shapes.CompareNumbers ∷ Shapes.Return ∷ Shapes.Load ∷ Shapes.Store ∷ Shapes.Copy ∷ []

abbrev pub shapes_of : InstructionSet → List Shape
shapes_of s = map (λ k. (s.row k).shape) (0 ∷ 1 ∷ 2 ∷ 3 ∷ 4 ∷ 5 ∷ 6 ∷ 7 ∷ 8 ∷ 9 ∷ 10 ∷ 11 ∷ 14 ∷ 15 ∷ 16 ∷ [])

module _ (s : InstructionSet) (same : shapes_of s ≡ fixed_shapes) where
  nth : (k : ℕ) → get_or (shapes_of s) k Shapes.Absent ≡ get_or fixed_shapes k Shapes.Absent
  nth k = ap (λ l. get_or l k Shapes.Absent) same

  pub fixed_rows :
      (s.style.adds_pages ≡ true → (s.row Places.ADD_PAGES).shape ≡ Shapes.AddPages)
      → (s.style.packets ≡ true → (s.row Places.NEGATIVE_CONSTANT).shape ≡ Shapes.NegativeConstant)
      → (s.style.constant ≡ None → ((s.row Places.CONSTANT).shape ≡ Shapes.Constant) × ((s.row Places.CONSTANT_HIGH).shape ≡ Shapes.ConstantHigh))
      → (s.row Places.LOAD).cost ≡ 0 → (s.row Places.STORE).cost ≡ 0 → (s.row Places.COPY).cost ≡ 0 → HasFixedRows s
  fixed_rows pages negative constants load store copy = record {
    load_pointer = nth 0;
    store_pointer = nth 1;
    set_number = nth 2;
    add = nth 3;
    sub = nth 4;
    add_register = nth 5;
    load_byte = nth 6;
    load_half = nth 7;
    store_byte = nth 8;
    store_half = nth 9;
    compare = nth 10;
    return = nth 11;
    add_pages = pages;
    negative = negative;
    load = nth 12;
    store = nth 13;
    copy = nth 14;
    constants = constants;
    load_cost = load;
    store_cost = store;
    copy_cost = copy;
  }
