-- The size of a text.
use Rattle.std.proofs.Common.{ℕ, ◌≤◌, ◌<◌, arith}
use Rattle.pf_top.specs.Meaning.Files.{text_limit}

pub limit_low : (n : ℕ) → n ≤ text_limit → n < 2147483648
unfolding text_limit
limit_low n most = omega (arith, most)
