-- The elements of the slot map, one to a row of text. @1 to @4 are whole numbers. The plan's reservations are the only `rect` of a picture. After a
-- number that is read back stands a byte below the digits.
use Rattle.std.specs.Prelude.{ℕ, List, [], ◌∷◌}
use Prim.Native.String.{String}

-- a run of places in a row of a band: from where across, where down, how wide and how high. They are drawn in this order, a later one over an earlier one
unfoldable pub mark_lines : List String
mark_lines =
    "<path class=\"blocked\" d=\"M@1 @2h@3v@4h-@3z\"/>\n"
    ∷ "<path class=\"clear\" d=\"M@1 @2h@3v@4h-@3z\"/>\n"
    ∷ "<rect x=\"@1\" y=\"@2\" width=\"@3\" height=\"@4\"/>\n"
    ∷ "<path class=\"wrong\" d=\"M@1 @2 h@3 v@4 h-@3 z\"/>\n"
    ∷ []

-- "sends, keeps clear, blocked, silent; of a plan that is not valid the clashing positions": silent places have no mark
abbrev pub blocked_mark : ℕ
blocked_mark = 0

abbrev pub clear_mark : ℕ
clear_mark = 1

abbrev pub sends_mark : ℕ
sends_mark = 2

abbrev pub wrong_mark : ℕ
wrong_mark = 3

-- the rows of the reservations and of those that must not be, once more: they are what is read back
abbrev pub sends_line : String
sends_line = "<rect x=\"@1\" y=\"@2\" width=\"@3\" height=\"@4\"/>\n"

abbrev pub wrong_line : String
wrong_line = "<path class=\"wrong\" d=\"M@1 @2 h@3 v@4 h-@3 z\"/>\n"

-- the frames and words of a band
unfoldable pub band_lines : List String
band_lines =
    "<path class=\"edge\" d=\"M@1 @2h@3v@4h-@3z\"/>\n"
    ∷ "<path class=\"grid\" d=\"M@1 @2h@3v@4h-@3z\"/>\n"
    ∷ "<text class=\"end\" x=\"140\" y=\"@1\">cell @2</text>\n"
    ∷ "<text class=\"tiny\" x=\"@1\" y=\"780\">@2</text>\n"
    ∷ []

-- ---- the rows by name

-- a channel's edge, the frame of a band, its name, and the number of a slot
abbrev pub edge_row : ℕ
edge_row = 0

abbrev pub grid_row : ℕ
grid_row = 1

abbrev pub name_row : ℕ
name_row = 2

abbrev pub slot_row : ℕ
slot_row = 3
