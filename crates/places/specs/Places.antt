-- What a place of a plan shows: "at each place the cells that send there; blocked positions marked", and "a plan that is not valid is shown with its clashes
-- marked".
-- Cells, slots and channels are counted from 0 here, and named from 1 in the text.
use Rattle.std.specs.Prelude.{ℕ, ◌+◌, ◌/◌, ◌%◌, Bool, ◌&&◌, List, [], ◌++◌, ltb, eqb}
use Rattle.laws.specs.Bits.{bit_at}
use Rattle.laws.specs.Choice.{pick}
use Rattle.laws.specs.Search.{first}
use Rattle.theory.specs.Greedy.{reserved}
use Rattle.faults.specs.Faults.{in_turn}
use Rattle.positions.specs.Blocked.{blocked_at}
use Rattle.site.specs.Record.{positions}
use Rattle.site.specs.Reach.{net_of}
use Rattle.site.specs.declared.Site.{Site}
use Rattle.words.specs.Words.{word_at}
use Rattle.checker.specs.Marks.{clashing}
use Rattle.phrases.specs.Phrases.{phrase}
use Rattle.phrases.specs.declared.Phrase.{Phrase}
use Rattle.phrases.specs.declared.Phrase.TheVariants.{Silent, Row}
use Rattle.say_faults.specs.Said.{judgeable}
use Rattle.places.specs.Lines.{place_lines, first_cell_row, next_cell_row, clash_row, place_blocked_row, idle_row}
use Rattle.places.specs.Lines.{spread_lines, spread_place_row, spread_plain_row, spread_clash_row, spread_blocked_row, spread_both_row}
use Rattle.places.specs.declared.PlaceShown.{PlaceShown}

-- what a place shows: the word of the cells that are reserved there, whether two of them clash, and whether the site blocks it
abbrev pub place_of : Site → List ℕ → ℕ → PlaceShown
place_of s t k =
    record {
      cells = word_at s.cells (reserved (positions s) t) k;
      clash = clashing (net_of s) (reserved (positions s) t) k;
      blocked = blocked_at s.blocked k;
    }

-- ---- its text

-- "the cells that send there": the number of cell i where the word has it, with a + before it where the word has a lower one
unfoldable pub sent_phrase : ℕ → ℕ → Phrase
sent_phrase word i = pick (bit_at word i) (Row (pick (ltb (first (bit_at word) 0 32) i) next_cell_row first_cell_row) (i + 1) 0 0 0) Silent

abbrev pub cell_said : ℕ → ℕ → List ℕ
cell_said word i = phrase place_lines (sent_phrase word i)

-- in rising order
abbrev pub cells_said : ℕ → List ℕ
cells_said word = in_turn (cell_said word) 32

-- "its clashes marked": !
abbrev pub clash_mark : Bool → Phrase
clash_mark t = pick t (Row clash_row 0 0 0 0) Silent

-- "blocked positions marked": #, also where a cell sends. A place that is open and where no cell sends is a full stop
abbrev pub end_mark : ℕ → Bool → Phrase
end_mark word blocked = pick blocked (Row place_blocked_row 0 0 0 0) (pick (eqb word 0) (Row idle_row 0 0 0 0) Silent)

abbrev pub marks_said : PlaceShown → List ℕ
marks_said p = phrase place_lines (clash_mark p.clash) ++ phrase place_lines (end_mark p.cells p.blocked)

unfoldable pub place_said : PlaceShown → List ℕ
place_said p = cells_said p.cells ++ marks_said p

-- ---- its line for a spreadsheet

-- "slot t and channel f (from 1) have position (t-1)F + (f-1)"
abbrev pub spread_place : (channels k : ℕ) → Phrase
spread_place channels k = Row spread_place_row (k / channels + 1) (k % channels + 1) 0 0

abbrev pub spread_marks : Bool → Bool → Phrase
spread_marks clash blocked = Row (pick clash (pick blocked spread_both_row spread_clash_row) (pick blocked spread_blocked_row spread_plain_row)) 0 0 0 0

unfoldable pub spread_said : (channels k : ℕ) → PlaceShown → List ℕ
spread_said channels k p = phrase spread_lines (spread_place channels k) ++ (cells_said p.cells ++ phrase spread_lines (spread_marks p.clash p.blocked))

-- nothing where the table can't be judged, or the position is not the site's
unfoldable pub spread_line : Site → List ℕ → ℕ → List ℕ
spread_line s t k = pick (judgeable s t && ltb k (positions s)) (spread_said s.channels k (place_of s t k)) []
