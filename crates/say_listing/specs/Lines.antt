-- The lines of document 01's listing. "One space between fields, a line feed after each line." They are rows of one table, with @1 to @4 for the values of
-- a row; a cell's line is its number, its reservations and the line feed, a row each.
use Rattle.std.specs.Prelude.{ℕ, zero, suc, ◌+◌, ◌/◌, ◌%◌, List, [], ◌∷◌, ◌++◌, length, get_or}
use Prim.Native.String.{String}
use Rattle.laws.specs.Choice.{pick}
use Rattle.theory.specs.Greedy.{sends}
use Rattle.phrases.specs.Phrases.{phrase}
use Rattle.phrases.specs.declared.Phrase.{Phrase}
use Rattle.phrases.specs.declared.Phrase.TheVariants.{Silent, Row}

-- the three rows of a cell's line stand first: they are looked for most
unfoldable pub listing_lines : List String
listing_lines =
    "@1"
    ∷ " @1.@2"
    ∷ "\n"
    ∷ "site @1 @2 @3\n"
    ∷ "chain yes\n"
    ∷ "chain no @1 @2 @3\n"
    ∷ "load holds\n"
    ∷ "load over @1 @2\n"
    ∷ "plan done\n"
    ∷ "plan 5 @1 @2\n"
    ∷ "refused @1 @2\n"
    ∷ []

-- ---- the rows by name

-- "cell"
abbrev pub number_row : ℕ
number_row = 0

-- "slot.channel"
abbrev pub reservation_row : ℕ
reservation_row = 1

-- "a line feed after each line"
abbrev pub end_row : ℕ
end_row = 2

-- "Fields: cells, slots, channels"
abbrev pub site_row : ℕ
site_row = 3

-- "chain yes", "Otherwise chain no a b c"
abbrev pub chain_yes_row : ℕ
chain_yes_row = 4

abbrev pub chain_no_row : ℕ
chain_no_row = 5

-- "load holds", "Otherwise .. load over cell excess"
abbrev pub load_holds_row : ℕ
load_holds_row = 6

abbrev pub load_over_row : ℕ
load_over_row = 7

-- "plan done", "Otherwise .. plan 5 cell short"
abbrev pub plan_done_row : ℕ
plan_done_row = 8

abbrev pub plan_short_row : ℕ
plan_short_row = 9

-- "An unreadable file gives one line, refused number offset."
abbrev pub refused_row : ℕ
refused_row = 10

-- ---- the line of a cell

-- "Slot t and channel f (from 1) have position (t-1)F + (f-1)": position p as slot and channel
abbrev pub reservation : (channels p : ℕ) → Phrase
reservation channels p = Row reservation_row (p / channels + 1) (p % channels + 1) 0 0

-- "its reservations": nothing where the byte does not mean transmit
unfoldable pub listed : (channels p byte : ℕ) → Phrase
listed channels p byte = pick (sends byte) (reservation channels p) Silent

-- "its reservations as slot.channel in rising position": of the first so many bytes of a row
unfoldable pub reservations : (channels : ℕ) → List ℕ → ℕ → List ℕ
reservations channels row zero = []
reservations channels row (suc p) = reservations channels row p ++ phrase listing_lines (listed channels p (get_or row p 0))

-- "then cell and its reservations .. the number alone if it has none"
unfoldable pub cell_listed : (cell channels : ℕ) → List ℕ → List ℕ
cell_listed cell channels row =
    phrase listing_lines (Row number_row cell 0 0 0) ++ (reservations channels row (length row) ++ phrase listing_lines (Row end_row 0 0 0 0))
