-- The rows of the table: each place has the word and the rest of its line, and what stands with them.
use Rattle.std.specs.Prelude.{ℕ, ◌+◌, List, [], map, slice_index_or}
use denote.Enum.Declared.{tag_of}
use Rattle.pf_tables.specs.declared.row.Row.{Row}
use Rattle.pf_hvx.specs.contracts.rows.Mnemonic.{the_type as name_type}
use Rattle.pf_hvx.specs.declared.rows.Mnemonic.{Mnemonic}
use Rattle.pf_tables.specs.declared.recipes.TheConstants.{NONE}
use Rattle.pf_hvx.specs.declared.rows.TheConstants.{ROWS, NAMED}

-- the place of a name in the table
abbrev pub place : Mnemonic → ℕ
place name = NAMED + tag_of name_type name

-- the word and the rest of the line at a place, and what stands with them
unfoldable pub word_at : ℕ → List ℕ
word_at k = slice_index_or (map (λ r. r.0.now) ROWS.now) k []

unfoldable pub pattern_at : ℕ → List ℕ
pattern_at k = slice_index_or (map (λ r. r.1.now) ROWS.now) k []

unfoldable pub row_at : ℕ → Row
row_at k = slice_index_or (map (λ r. r.2) ROWS.now) k NONE
