-- The words of the faults of a PGM file.
use Rattle.std.specs.Prelude.{ℕ, List, codes}
use Rattle.pf_images.specs.declared.fault.PgmKind.{PgmKind}
use Rattle.pf_images.specs.declared.fault.PgmKind.TheVariants.{Magic, Number, Size, Maxval, Short, Extra}

abbrev pub kind_word : PgmKind → List ℕ
kind_word Magic = codes "magic"
kind_word Number = codes "number"
kind_word Size = codes "size"
kind_word Maxval = codes "maxval"
kind_word Short = codes "short"
kind_word Extra = codes "extra"
