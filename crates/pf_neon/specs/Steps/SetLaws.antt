-- The table of rows meets what is asked of every one: all of it is computed.
use Rattle.std.proofs.Common.{◌≡◌, true, refl, arith}
use Rattle.pf_tables.specs.Meaning.Laws.{IsSet, moves_all}
use Rattle.pf_tables.proofs.FixedRows.{fixed_rows}
use Rattle.pf_neon.specs.Meaning.Rows.{word_at, pattern_at, row_at}
use Rattle.pf_neon.specs.Meaning.Neon.{neon_set}

moves : moves_all 16 ≡ true
unfolding moves_all
moves = refl

pub is_neon_set : IsSet neon_set
unfolding word_at pattern_at row_at
is_neon_set = record {
  some_bytes = omega arith;
  few_bytes = omega arith;
  whole = refl;
  some_rows = omega arith;
  few_vectors = omega arith;
  room = omega arith;
  free = λ h. absurd (cc);
  unit = omega arith;
  small_unit = omega arith;
  constant = refl;
  moves = moves;
  fixed_rows = fixed_rows neon_set refl (λ paged. refl) (λ packed. absurd (cc)) (λ none. (refl, refl)) refl refl refl;
  sound = refl;
  suited = refl;
  apart = refl;
  good = refl;
  short = refl;
  below = refl;
  onward = refl;
  forked = refl;
  no_jump = refl;
}
