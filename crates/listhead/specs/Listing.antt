-- The listing of a site file, as document 01 has it: the lines of the crate `say_listing`, put together. It is of the
-- bytes that were read: "the first 4,096 bytes" are the program's to read.
use Rattle.std.specs.Prelude.{ℕ, zero, suc, ◌+◌, List, [], ◌++◌, Result, Ok, Err}
use Rattle.theory.specs.Greedy.{Outcome, planned, no_room, greedy, row_at}
use Rattle.site.specs.Record.{positions}
use Rattle.site.specs.Reach.{net_of}
use Rattle.site.specs.declared.Site.{Site}
use Rattle.planner.specs.Plan.{answer_of}
use Rattle.records.specs.declared.Refusal.{Refusal}
use Rattle.sitefile.specs.Read.{read_site}
use Rattle.phrases.specs.Phrases.{phrase}
use Rattle.phrases.specs.declared.Phrase.{Phrase}
use Rattle.phrases.specs.declared.Phrase.TheVariants.{Row}
use Rattle.say_listing.specs.Lines.{listing_lines, refused_row, cell_listed}
use Rattle.listing.specs.Answers.{head_with}

-- the head, with the answer that the planner gives
unfoldable pub head_lines : Site → List ℕ
head_lines s = head_with s (answer_of (greedy (net_of s)))

-- "An unreadable file gives one line, refused number offset."
abbrev pub unread_line : Refusal → Phrase
unread_line r = Row refused_row r.number r.place 0 0

-- "then cell and its reservations": the lines of n cells from index i on, of a table with w positions to a row
unfoldable pub cell_lines : ℕ → ℕ → List ℕ → ℕ → ℕ → List ℕ
cell_lines channels w t i zero = []
cell_lines channels w t i (suc n) = cell_listed (i + 1) channels (row_at w t i) ++ cell_lines channels w t (i + 1) n

-- "Otherwise .. no cell lines"
abbrev pub cells_of : Site → Outcome → List ℕ
cells_of s (planned t) = cell_lines s.channels (positions s) t 0 s.cells
cells_of s (no_room c m) = []

-- an accepted file, and an unreadable one
abbrev pub listing_of : Site → Result Unit Refusal → List ℕ
listing_of s (Ok u) = head_lines s ++ cells_of s (greedy (net_of s))
listing_of s (Err r) = phrase listing_lines (unread_line r)

unfoldable pub listing : List ℕ → List ℕ
listing file = listing_of (read_site file).site (read_site file).answer
