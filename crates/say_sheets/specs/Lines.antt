-- The sentences of a bad line of a range sheet, of a tidied sheet and of a site that was made of one, one to a row. @1 to @4 are the values of a row, @a to @c
-- the s of a plural.
use Rattle.std.specs.Prelude.{ℕ, List, [], ◌∷◌}
use Prim.Native.String.{String}

-- why a line is bad: @1 is the line, @2 the character or the column
unfoldable pub line_fault_lines : List String
line_fault_lines =
    "refused 17, line @1: the sheet ends before this line\n"
    ∷ "refused 17, line @1: a line too many\n"
    ∷ "refused 17, line @1: it begins with a byte order mark\n"
    ∷ "refused 17, line @1: at character @2 stands a semicolon, and a comma belongs there\n"
    ∷ "refused 17, line @1: at character @2 stands a tab, and a comma belongs there\n"
    ∷ "refused 17, line @1: at character @2 stands a quote, and a sheet has none\n"
    ∷ "refused 17, line @1: at character @2 stands a blank, and a sheet has none\n"
    ∷ "refused 17, line @1: the line ends in LF alone, and CR LF belongs there\n"
    ∷ "refused 17, line @1: the line has no end, and CR LF belongs there\n"
    ∷ "refused 17, line @1: column @2: a number with a leading zero\n"
    ∷ "refused 17, line @1: column @2: a number above 65,535\n"
    ∷ "refused 17, line @1: column @2: a plain number belongs there\n"
    ∷ "refused 17, line @1: column @2: 0 or 1 belongs there\n"
    ∷ "refused 17, line @1: too few fields: it ends after column @2\n"
    ∷ "refused 17, line @1: too many fields: column @2 is one too many\n"
    ∷ "refused 17, line @1: before character @2 stands a CR without its LF\n"
    ∷ []

-- what was changed: the row is the number of the change. Then the place of a change, and what is said of the sheet
unfoldable pub tidy_lines : List String
tidy_lines =
    ""
    ∷ "the byte order mark dropped\n"
    ∷ "a comma put for a semicolon or a tab\n"
    ∷ "CR LF put for LF\n"
    ∷ "a quote dropped\n"
    ∷ "a blank dropped\n"
    ∷ "0 put for a blank mark\n"
    ∷ "1 put for an x\n"
    ∷ "the last line's end added\n"
    ∷ "line @1: "
    ∷ "from line @1 on, @2 times: "
    ∷ "tidied\n"
    ∷ "tidy as it is: nothing to change\n"
    ∷ "refused 17, line @1: this line can't be tidied\n"
    ∷ []

-- what a site is
unfoldable pub made_lines : List String
made_lines =
    "made: @1 cell@a, @2 slot@b, @3 channel@c, @4 clashes\n"
    ∷ "made: @1 cell@a, @2 slot@b, @3 channel@c, @4 clash\n"
    ∷ []

-- ---- the rows by name

abbrev pub once_row : ℕ
once_row = 9

abbrev pub often_row : ℕ
often_row = 10

abbrev pub tidied_row : ℕ
tidied_row = 11

abbrev pub as_it_is_row : ℕ
as_it_is_row = 12

abbrev pub not_tidied_row : ℕ
not_tidied_row = 13
