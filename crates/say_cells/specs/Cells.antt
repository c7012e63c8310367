-- `show SITE --cells`: "a line for each cell instead, runs joined". A second line has those of its reservations that clash, and a third those at blocked
-- positions, where there are some: "a plan that is not valid is shown with its clashes marked". Cells, slots and channels are counted from 0 here.
use Rattle.std.specs.Prelude.{ℕ, ◌+◌, ◌*◌, Bool, true, ◌&&◌, not, List, [], ◌++◌, eqb, ltb, get_or}
use Rattle.std.specs.Int.Bits.{bit_and}
use Rattle.laws.specs.Bits.{bit_at, word_of}
use Rattle.laws.specs.Choice.{pick}
use Rattle.laws.specs.Part.{list_of}
use Rattle.site.specs.Reach.{clash_rows}
use Rattle.site.specs.declared.Site.{Site}
use Rattle.phrases.specs.Phrases.{phrase}
use Rattle.phrases.specs.declared.Phrase.{Phrase}
use Rattle.phrases.specs.declared.Phrase.TheVariants.{Silent, Row}
use Rattle.say_faults.specs.Said.{judgeable}
use Rattle.places.specs.Places.{place_of}
use Rattle.places.specs.declared.PlaceShown.{PlaceShown}
use Rattle.say_runs.specs.Runs.{run_before}
use Rattle.say_runs.specs.Said.{runs_said}
use Rattle.say_cells.specs.Lines.{sender_lines, sender_cell_row, nowhere_row, sender_clash_row, barred_row, cell_end_row}
use Rattle.say_cells.specs.declared.SentAs.{SentAs}
use Rattle.say_cells.specs.declared.SentAs.TheVariants.{Sends, Clashing, Barred}

-- whether a place is of a kind, for a cell with this clash row: any; one where a cell of the clash row sends; one that is blocked
abbrev pub of_kind : SentAs → (row : ℕ) → PlaceShown → Bool
of_kind Sends row p = true
of_kind Clashing row p = not (eqb (bit_and p.cells row) 0)
of_kind Barred row p = p.blocked

-- whether cell i sends at a place of a kind
abbrev pub held_as : SentAs → (row i : ℕ) → PlaceShown → Bool
held_as kind row i p = bit_at p.cells i && of_kind kind row p

-- the channels of a slot where it does
abbrev pub channels_at : Site → List ℕ → SentAs → (i slot : ℕ) → ℕ
channels_at s t kind i slot = word_of (λ f. held_as kind (get_or (clash_rows s) i 0) i (place_of s t (slot * s.channels + f))) s.channels

-- a word of channels for each slot; a site has at most 128, and past its own there is nothing
abbrev pub slot_channels : Site → List ℕ → SentAs → (i slot : ℕ) → ℕ
slot_channels s t kind i slot = pick (ltb slot s.slots) (channels_at s t kind i slot) 0

unfoldable pub sender_row : Site → List ℕ → SentAs → ℕ → List ℕ
sender_row s t kind i = list_of (slot_channels s t kind i) 128

-- how its line begins, and what is said where there is none
abbrev pub begin_phrase : SentAs → ℕ → Phrase
begin_phrase Sends i = Row sender_cell_row (i + 1) 0 0 0
begin_phrase Clashing i = Row sender_clash_row 0 0 0 0
begin_phrase Barred i = Row barred_row 0 0 0 0

abbrev pub none_phrase : SentAs → ℕ → Phrase
none_phrase Sends i = Row nowhere_row (i + 1) 0 0 0
none_phrase Clashing i = Silent
none_phrase Barred i = Silent

-- the line of a row
unfoldable pub row_line : (channels : ℕ) → SentAs → ℕ → List ℕ → List ℕ
row_line channels kind i row =
    pick (run_before row 128)
    (phrase sender_lines (begin_phrase kind i) ++ (runs_said channels row ++ phrase sender_lines (Row cell_end_row 0 0 0 0)))
    (phrase sender_lines (none_phrase kind i))

-- the line of a cell; none where the table can't be judged, or the cell is not the site's
unfoldable pub sender_line : Site → List ℕ → SentAs → ℕ → List ℕ
sender_line s t kind i = pick (judgeable s t && ltb i s.cells) (row_line s.channels kind i (sender_row s t kind i)) []
