-- The general registers, by the numbers of their roles, with the letters that comments call them by.
use Rattle.std.specs.Prelude.{ℕ}

-- t: the table of pointers of the row
abbrev pub table_role : ℕ
table_role = 0

-- n: how many pixels the row has
abbrev pub count_role : ℕ
count_role = 1

-- s: the scratch memory
abbrev pub scratch_role : ℕ
scratch_role = 2

-- x: the pixel at which the block begins
abbrev pub pixel_role : ℕ
pixel_role = 3

-- u: the row's own table, kept where another stands in its place
abbrev pub kept_role : ℕ
kept_role = 4

-- p: the pointer of a load or a store
abbrev pub pointer_role : ℕ
pointer_role = 5

-- v: a pixel that is copied
abbrev pub value_role : ℕ
value_role = 6

-- e: the end of what is gone through
abbrev pub end_role : ℕ
end_role = 7
