-- The rows of a table as they stand in its source: the word and the rest of a line, and what stands with them.
use Rattle.std.specs.Prelude.{ℕ, List, [], map, slice_index_or}
use Rattle.std.specs.Borrow.{Bor}
use Rattle.pf_tables.specs.declared.row.Row.{Row}
use Rattle.pf_tables.specs.declared.recipes.TheConstants.{NONE}

abbrev pub Entry : Type 0
Entry = Bor (List ℕ) × Bor (List ℕ) × Row

abbrev pub word_in : List Entry → ℕ → List ℕ
word_in rows k = slice_index_or (map (λ (r : Entry). r.0.now) rows) k []

abbrev pub pattern_in : List Entry → ℕ → List ℕ
pattern_in rows k = slice_index_or (map (λ (r : Entry). r.1.now) rows) k []

abbrev pub row_in : List Entry → ℕ → Row
row_in rows k = slice_index_or (map (λ (r : Entry). r.2) rows) k NONE
