-- The parts of the line of a cell. @1 and @2 are the values. Of each four rows the first two begin a list, and the other two go on with it; of each two the
-- first names one number, and the other a range.
use Rattle.std.specs.Prelude.{ℕ, List, [], ◌∷◌}
use Prim.Native.String.{String}

unfoldable pub run_lines : List String
run_lines =
    "@1"
    ∷ "@1-@2"
    ∷ "+@1"
    ∷ "+@1-@2"
    ∷ " slot @1"
    ∷ " slots @1-@2"
    ∷ ", slot @1"
    ∷ ", slots @1-@2"
    ∷ " channel "
    ∷ " channels "
    ∷ " all channels"
    ∷ []

-- ---- the rows by name

-- the numbers of channels
abbrev pub number_rows : ℕ
number_rows = 0

-- the slots
abbrev pub slot_rows : ℕ
slot_rows = 4

abbrev pub one_channel_row : ℕ
one_channel_row = 8

abbrev pub some_channels_row : ℕ
some_channels_row = 9

abbrev pub all_channels_row : ℕ
all_channels_row = 10
