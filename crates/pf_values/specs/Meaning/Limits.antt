-- The words of limits.
use Rattle.std.specs.Prelude.{ℕ, List, codes}
use Rattle.pf_values.specs.declared.limit.LimitKind.{LimitKind}
use Rattle.pf_values.specs.declared.limit.LimitKind.TheVariants.{Bytes, Amount, Images, Taps, Definitions, Offset, Depth, Nodes}

abbrev pub limit_word : LimitKind → List ℕ
limit_word Bytes = codes "bytes"
limit_word Amount = codes "amount"
limit_word Images = codes "images"
limit_word Taps = codes "taps"
limit_word Definitions = codes "definitions"
limit_word Offset = codes "offset"
limit_word Depth = codes "depth"
limit_word Nodes = codes "nodes"
