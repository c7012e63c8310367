-- The sentences of a refusal, one to a row: what each number means, and the number with its place. @1 and @2 are the values of a row.
use Rattle.std.specs.Prelude.{ℕ, List, [], ◌∷◌}
use Prim.Native.String.{String}

-- what it means, in the words of docs/NUMBERS.md: the row is the number. Row 0 is said of any number that has no row; 5, 6,
-- 7 and 22 come with more than a place, and crate `say_verdicts` has their text
unfoldable pub refusal_meanings : List String
refusal_meanings =
    "the call was refused\n"
    ∷ "the size is out of range: a site has 1 to 32 cells, 1 to 128 slots and 1 to 16 channels\n"
    ∷ "a load or a flow is for a cell that the site does not have\n"
    ∷ "the reach has a cell that reaches itself, or a cell that the site does not have\n"
    ∷ "the table is too short\n"
    ∷ "the call was refused\n"
    ∷ "the call was refused\n"
    ∷ "the call was refused\n"
    ∷ "the file ends too early: inside a record, or before one that has to be there\n"
    ∷ "a record of another kind has to stand there\n"
    ∷ "the length of a record is not the one that belongs to it\n"
    ∷ "the reach pairs are out of order, or one stands twice\n"
    ∷ "the file goes on after its last record\n"
    ∷ "the lent output is too short\n"
    ∷ "a bit past the last position is set\n"
    ∷ "the burst or the period of a flow is not 1 to 65,535, or its repeats are not 1 to 4\n"
    ∷ "the flow needs a share above 65,535 fragments in a superframe, its repeats counted\n"
    ∷ "the sheet is malformed: a line is not as the format asks, or is missing, or is one too many\n"
    ∷ "more than 16 flows ask to be admitted\n"
    ∷ "the site is not nested when all its cells count, the spare ones too\n"
    ∷ "a blocked position is one that the site does not have: its slots and channels end before it\n"
    ∷ "the record of blocked positions blocks none\n"
    ∷ "the call was refused\n"
    ∷ "no numbering makes the site nested when all its cells count, the spare ones too\n"
    ∷ "the rule is not 1 or 2, or not 2 where a site file says it\n"
    ∷ "too large to search: the site has more than 64 open positions or more than 24 fragments in all\n"
    ∷ "the table is not the plan of the site as it is, so that one load can't be changed in it\n"
    ∷ []

-- the number, and the place
unfoldable pub refusal_heads : List String
refusal_heads =
    "refused @1: "
    ∷ "refused @1, byte @2 of the site file: "
    ∷ "refused @1, byte @2 of the plan file: "
    ∷ "refused @1, line @2: "
    ∷ "refused @1, cell @2: "
    ∷ "refused @1, flow @2: "
    ∷ "refused @1, position @2: "
    ∷ []

-- ---- the rows of the places by name

abbrev pub alone_row : ℕ
alone_row = 0

abbrev pub byte_row : ℕ
byte_row = 1

abbrev pub plan_byte_row : ℕ
plan_byte_row = 2

abbrev pub line_row : ℕ
line_row = 3

abbrev pub at_cell_row : ℕ
at_cell_row = 4

abbrev pub flow_row : ℕ
flow_row = 5

abbrev pub position_row : ℕ
position_row = 6
