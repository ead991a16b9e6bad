-- The table meets the laws of every table of rows: all of it is computed.
use Rattle.std.proofs.Common.{◌≡◌, true, refl, arith}
use Rattle.pf_tables.specs.Meaning.Laws.{IsSet, moves_all}
use Rattle.pf_tables.proofs.FixedRows.{fixed_rows}
use Rattle.pf_avx2.specs.Meaning.Rows.{word_at, pattern_at, row_at}
use Rattle.pf_avx2.specs.Meaning.Avx2.{avx2_set}

pub is_avx2_set : IsSet avx2_set
unfolding word_at pattern_at row_at moves_all
is_avx2_set = record {
  some_bytes = omega arith;
  few_bytes = omega arith;
  whole = refl;
  some_rows = omega arith;
  few_vectors = omega arith;
  room = omega arith;
  free = λ packed. absurd (cc);
  unit = omega arith;
  small_unit = omega arith;
  constant = refl;
  fixed_rows = fixed_rows avx2_set refl (λ paged. absurd (cc)) (λ packed. absurd (cc)) (λ none. absurd (cc)) refl refl refl;
  moves = refl;
  sound = refl;
  suited = refl;
  apart = refl;
  good = refl;
  short = refl;
  below = refl;
  onward = refl;
  forked = refl;
  no_jump = refl;
}
