use Rattle.std.proofs.Common.{◌∙◌, sym, refl, [], map, length}
use Rattle.std.proofs.lemmas.List.{get_or_append_left, get_or-append_right}
use Rattle.pf_tables.specs.declared.recipes.TheConstants.{NONE}
use Rattle.pf_neon.specs.declared.rows.TheConstants.{PLAIN, RESIZED}
use Rattle.pf_neon.specs.Meaning.Rows.{word_at, pattern_at, row_at}
use Rattle.pf_neon.proofs.rows.entry.Goals as goal

pub returns-then-k-clause-word : goal.returns-then-k-clause-word
unfolding word_at
returns-then-k-clause-word c = c.entry_at.ensures.word ∙ sym (get_or_append_left (map (λ r. r.0.now) PLAIN.now) (map (λ r. r.0.now) RESIZED.now) [] c.args.k c.if-k.true)

pub returns-then-k-clause-pattern : goal.returns-then-k-clause-pattern
unfolding pattern_at
returns-then-k-clause-pattern c = c.entry_at.ensures.pattern ∙ sym (get_or_append_left (map (λ r. r.1.now) PLAIN.now) (map (λ r. r.1.now) RESIZED.now) [] c.args.k c.if-k.true)

pub returns-then-k-clause-row : goal.returns-then-k-clause-row
unfolding row_at
returns-then-k-clause-row c = c.entry_at.ensures.row ∙ sym (get_or_append_left (map (λ r. r.2) PLAIN.now) (map (λ r. r.2) RESIZED.now) NONE c.args.k c.if-k.true)

pub returns-else-k-clause-word : goal.returns-else-k-clause-word
unfolding word_at
returns-else-k-clause-word c = c.entry_at-else-k.ensures.word ∙ sym (get_or-append_right (map (λ r. r.0.now) PLAIN.now) (map (λ r. r.0.now) RESIZED.now) (length PLAIN.now) c.args.k [] refl c.if-k.false)

pub returns-else-k-clause-pattern : goal.returns-else-k-clause-pattern
unfolding pattern_at
returns-else-k-clause-pattern c = c.entry_at-else-k.ensures.pattern ∙ sym (get_or-append_right (map (λ r. r.1.now) PLAIN.now) (map (λ r. r.1.now) RESIZED.now) (length PLAIN.now) c.args.k [] refl c.if-k.false)

pub returns-else-k-clause-row : goal.returns-else-k-clause-row
unfolding row_at
returns-else-k-clause-row c = c.entry_at-else-k.ensures.row ∙ sym (get_or-append_right (map (λ r. r.2) PLAIN.now) (map (λ r. r.2) RESIZED.now) (length PLAIN.now) c.args.k NONE refl c.if-k.false)
