use Rattle.std.proofs.Common.{◌≡◌, ℕ, ◌<◌, List, [], length, map, get_or, refl}
use Rattle.pf_lanes.proofs.Columns.{column}
use Rattle.pf_tables.specs.declared.recipes.TheConstants.{NONE}
use Rattle.pf_tables.specs.Meaning.Entries.{Entry, word_in, pattern_in, row_in}
use Rattle.pf_tables.proofs.entries.entry_at.Goals as goal

word_is : (xs : List Entry) (k : ℕ) (p : Entry) → k < length xs → p ≡ get_or xs k p → p.0.now ≡ word_in xs k
word_is xs k p inside e = column (λ (p : Entry). p.0.now) xs (map (λ (r : Entry). r.0.now) xs) k p [] inside refl e

pattern_is : (xs : List Entry) (k : ℕ) (p : Entry) → k < length xs → p ≡ get_or xs k p → p.1.now ≡ pattern_in xs k
pattern_is xs k p inside e = column (λ (p : Entry). p.1.now) xs (map (λ (r : Entry). r.1.now) xs) k p [] inside refl e

row_is : (xs : List Entry) (k : ℕ) (p : Entry) → k < length xs → p ≡ get_or xs k p → p.2 ≡ row_in xs k
row_is xs k p inside e = column (λ (p : Entry). p.2) xs (map (λ (r : Entry). r.2) xs) k p NONE inside refl e

pub returns-clause-word : goal.returns-clause-word
returns-clause-word c = let e = c.in-Some.ensures.lookup.1 in search (word_is, e)

pub returns-clause-pattern : goal.returns-clause-pattern
returns-clause-pattern c = let e = c.in-Some.ensures.lookup.1 in search (pattern_is, e)

pub returns-clause-row : goal.returns-clause-row
returns-clause-row c = let e = c.in-Some.ensures.lookup.1 in search (row_is, e)
