-- The sentences of the clashes of a site, one to a row. @1 to @4 are the values of a row.
use Rattle.std.specs.Prelude.{ℕ, List, [], ◌∷◌}
use Prim.Native.String.{String}

unfoldable pub clash_lines : List String
clash_lines =
    "@1 and @2 clash: @1 reaches @2\n"
    ∷ "@1 and @2 clash: @2 reaches @1\n"
    ∷ "@1 and @2 clash: each reaches the other\n"
    ∷ "@1 and @2 clash: both reach @3\n"
    ∷ "@1 and @2 clash: @1 reaches @2, and both reach @3\n"
    ∷ "@1 and @2 clash: @2 reaches @1, and both reach @3\n"
    ∷ "@1 and @2 clash: each reaches the other, and both reach @3\n"
    ∷ "1 clash, rule @1\n"
    ∷ "@1 clashes, rule @2\n"
    ∷ []

-- ---- the rows by name

-- of two cells that clash: the first reaches the second, the second the first, or each the other
abbrev pub forth_row : ℕ
forth_row = 0

abbrev pub back_row : ℕ
back_row = 1

abbrev pub each_row : ℕ
each_row = 2

-- and where both reach a third cell: neither reaches the other, or as before
abbrev pub third_alone_row : ℕ
third_alone_row = 3

abbrev pub forth_third_row : ℕ
forth_third_row = 4

abbrev pub back_third_row : ℕ
back_third_row = 5

abbrev pub each_third_row : ℕ
each_third_row = 6

-- how many there are
abbrev pub one_clash_row : ℕ
one_clash_row = 7

abbrev pub clashes_row : ℕ
clashes_row = 8
