-- What is read back from the text of a picture: the marks of its reservations, by where they stand, and which places of the slot map they cover.
use Rattle.std.specs.Prelude.{ℕ, ◌+◌, Bool, false, ◌&&◌, ◌||◌, List, [], ◌∷◌, eqb, leb, get_or}
use Rattle.speech.specs.Speech.{bytes}
use Rattle.readback.specs.Back.{rows_heard}
use Rattle.site.specs.declared.Site.{Site}
use Rattle.drawing.specs.Lines.{sends_line, wrong_line}
use Rattle.drawing.specs.Range.{arc_line, arrow_line, cell_at}
use Rattle.drawing.specs.Places.{slot_wide, channel_high, across_of, down_of}

-- the marks of reservations in a text: of each, how far across and down it begins, how wide and how high it is
abbrev pub sends_read : List ℕ → List (List ℕ)
sends_read text = rows_heard (bytes sends_line) text

-- and of those that must not be
abbrev pub wrong_read : List ℕ → List (List ℕ)
wrong_read text = rows_heard (bytes wrong_line) text

-- whether a mark covers_place the place of a slot and a channel in the band of a cell: it begins at or before it, ends at or after it, and is in its row
unfoldable pub covers_place : Site → (i channel slot : ℕ) → List ℕ → Bool
covers_place s i channel slot v =
    (leb (get_or v 0 0) (across_of s slot) && leb (across_of s slot + slot_wide s) (get_or v 0 0 + get_or v 2 0))
    && (eqb (get_or v 1 0) (down_of s i channel) && eqb (get_or v 3 0) (channel_high s))

-- whether one of them passes a test
unfoldable pub some_of : (List ℕ → Bool) → List (List ℕ) → Bool
some_of p [] = false
some_of p (v ∷ l) = p v || some_of p l

-- whether one of the marks covers_place the place
abbrev pub covered : Site → (i channel slot : ℕ) → List (List ℕ) → Bool
covered s i channel slot marks = some_of (covers_place s i channel slot) marks

-- ---- the range map

-- the arcs and the arrows in a text: of each, from where across, a point between, and to where
abbrev pub arcs_read : List ℕ → List (List ℕ)
arcs_read text = rows_heard (bytes arc_line) text

abbrev pub arrows_read : List ℕ → List (List ℕ)
arrows_read text = rows_heard (bytes arrow_line) text

-- whether a line goes from the middle of one cell to the middle of another
unfoldable pub goes_from : Site → (a b : ℕ) → List ℕ → Bool
goes_from s a b v = eqb (get_or v 0 0) (cell_at s a) && eqb (get_or v 3 0) (cell_at s b)

-- whether one of the lines does
abbrev pub drawn_from : Site → (a b : ℕ) → List (List ℕ) → Bool
drawn_from s a b lines = some_of (goes_from s a b) lines
