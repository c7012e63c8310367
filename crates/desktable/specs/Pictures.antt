-- The pictures of the desk examples: the sites and tables that Desk.antt has not, and what is asked of a picture, in numbers. Cells, slots, channels and
-- positions are counted from 0. What each comes to stands in proofs/Pictures.antt.
use Rattle.std.specs.Prelude.{ℕ, List, [], ◌∷◌, ◌++◌, replicate}
use Rattle.theory.specs.Net.{room, lower}
use Rattle.faults.specs.Faults.{in_turn, passed}
use Rattle.site.specs.Record.{load_at, positions}
use Rattle.site.specs.Reach.{net_of}
use Rattle.site.specs.declared.Site.{Site}
use Rattle.phrases.specs.declared.Phrase.{Phrase}
use Rattle.phrases.specs.declared.Phrase.TheVariants.{Silent, Row}
use Rattle.drawing.specs.Slots.{marked_as}
use Rattle.drawing.specs.Range.{line_phrase}
use Rattle.drawing.specs.Loads.{is_over}
use Rattle.desktable.specs.Desk.{site_with, site_ruled}

-- ---- sites and tables

-- the north drift of docs/DESK.md: 1 reaches 2, 2 and 3 reach each other, 3 reaches 4, 4 reaches 5; cell 5 is spare
abbrev pub north_drift : Site
north_drift = site_with 8 2 (6 ∷ 5 ∷ 4 ∷ 7 ∷ 0 ∷ []) (2 ∷ 4 ∷ 10 ∷ 16 ∷ [])

-- three cells under rule 2, with a line of each kind: 1 and 2 reach each other, 3 reaches 2, and so 1 and 3 clash by cell 2
abbrev pub each_line : Site
each_line = site_ruled 2 2 1 (1 ∷ 1 ∷ 1 ∷ []) (2 ∷ 1 ∷ 2 ∷ []) []

-- the only reach is 3 to 1, one way: samples/oneway.site
abbrev pub backwards : Site
backwards = site_with 2 1 (1 ∷ 1 ∷ 2 ∷ []) (0 ∷ 0 ∷ 1 ∷ [])

-- the largest site
abbrev pub full_size : Site
full_size = site_with 128 16 (replicate 32 1) []

-- the plan of P1, as P1's line has it: rows 111110, 222221, 111102
abbrev pub P1plan : List ℕ
P1plan = 1 ∷ 1 ∷ 1 ∷ 1 ∷ 1 ∷ 0 ∷ 2 ∷ 2 ∷ 2 ∷ 2 ∷ 2 ∷ 1 ∷ 1 ∷ 1 ∷ 1 ∷ 1 ∷ 0 ∷ 2 ∷ []

-- the table of P9, which is not valid for P1: rows 111110, 000001, 001111
abbrev pub P9table : List ℕ
P9table = 1 ∷ 1 ∷ 1 ∷ 1 ∷ 1 ∷ 0 ∷ 0 ∷ 0 ∷ 0 ∷ 0 ∷ 0 ∷ 1 ∷ 0 ∷ 0 ∷ 1 ∷ 1 ∷ 1 ∷ 1 ∷ []

-- a table of P3: rows 10, 10, 01. Under rule 2 cells 1 and 2 clash
abbrev pub P3table : List ℕ
P3table = 1 ∷ 0 ∷ 1 ∷ 0 ∷ 0 ∷ 1 ∷ []

-- the plan of W11's site under rule 2, a row for each cell: cell 5 sends at positions 3 and 7
abbrev pub edge_table : List ℕ
edge_table =
    (1 ∷ 1 ∷ 1 ∷ 1 ∷ 0 ∷ 0 ∷ 0 ∷ 0 ∷ [])
    ++ ((0 ∷ 0 ∷ 0 ∷ 0 ∷ 1 ∷ 1 ∷ 1 ∷ 0 ∷ [])
    ++ ((0 ∷ 0 ∷ 0 ∷ 0 ∷ 0 ∷ 0 ∷ 0 ∷ 0 ∷ [])
    ++ ((1 ∷ 1 ∷ 1 ∷ 0 ∷ 0 ∷ 0 ∷ 0 ∷ 0 ∷ [])
    ++ (0 ∷ 0 ∷ 0 ∷ 1 ∷ 0 ∷ 0 ∷ 0 ∷ 1 ∷ []))))

-- ---- what is asked

-- of each band the positions that have a mark
abbrev pub bands_marked : Site → List ℕ → ℕ → List (List ℕ)
bands_marked s t mark = in_turn (λ i. passed (marked_as s t mark i) (λ k. k) (positions s) ∷ []) s.cells

-- of each line of the range map its kind, and from which cell to which it goes
abbrev pub kind_in : (a b : ℕ) → Phrase → List (List ℕ)
kind_in a b Silent = []
kind_in a b (Row kind x y z w) = (kind ∷ a ∷ b ∷ []) ∷ []

abbrev pub lines_drawn : Site → List (List ℕ)
lines_drawn s = in_turn (λ a. in_turn (λ b. kind_in a b (line_phrase s a b)) s.cells) s.cells

-- the cells whose bar is over
abbrev pub over_cells : Site → List ℕ
over_cells s = passed (λ i. is_over (load_at s i) (lower (net_of s) i) (room (net_of s))) (λ i. i) s.cells
