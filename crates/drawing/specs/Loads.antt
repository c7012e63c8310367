-- The loads of the range map: "the load of each cell on top of what its earlier clashing cells send, against the room". A cell with a load has a bar, as the
-- load test has it: below, what its lower-numbered clashing cells send; above, its own load. The room is a line across. Cells are counted from 0.
use Rattle.std.specs.Prelude.{ℕ, ◌+◌, ◌-◌, ◌*◌, ◌/◌, Bool, ◌&&◌, List, [], ◌∷◌, ◌++◌, eqb, ltb}
use Prim.Native.String.{String}
use Rattle.laws.specs.Choice.{pick}
use Rattle.laws.specs.Most.{greater}
use Rattle.theory.specs.Net.{room, lower, loaded}
use Rattle.theory.specs.Verdict.{most_demand}
use Rattle.faults.specs.Faults.{in_turn}
use Rattle.site.specs.Record.{load_at}
use Rattle.site.specs.Reach.{net_of}
use Rattle.site.specs.declared.Site.{Site}
use Rattle.phrases.specs.Phrases.{phrase}
use Rattle.phrases.specs.declared.Phrase.{Phrase}
use Rattle.phrases.specs.declared.Phrase.TheVariants.{Silent, Row}
use Rattle.drawing.specs.Range.{cell_step, cell_at}

-- what the earlier cells send; the cell's load; a mark on a bar that is over; the load as a number; and the room
unfoldable pub load_lines : List String
load_lines =
    "<path class=\"before\" d=\"M@1 620h30v-@2h-30z\"/>\n"
    ∷ "<path class=\"load\" d=\"M@1 @2h30v-@3h-30z\"/>\n"
    ∷ "<text class=\"over\" x=\"@1\" y=\"@2\">!</text>\n"
    ∷ "<text class=\"tiny\" x=\"@1\" y=\"644\">@2</text>\n"
    ∷ "<path class=\"room\" d=\"M100 @1h@2\"/>\n<text class=\"small end\" x=\"92\" y=\"@3\">@4</text>\n"
    ∷ []

abbrev pub before_row : ℕ
before_row = 0

abbrev pub load_row : ℕ
load_row = 1

abbrev pub over_mark_row : ℕ
over_mark_row = 2

abbrev pub amount_row : ℕ
amount_row = 3

abbrev pub room_row : ℕ
room_row = 4

-- ---- by numbers: the middle of a cell, its load, what its earlier clashing cells send, and what the whole height stands for

-- how high so many channel-slots are: the whole in 150 units
abbrev pub bar_high : (scale x : ℕ) → ℕ
bar_high scale x = x * 150 / scale

unfoldable pub before_bar : (x load before scale : ℕ) → Phrase
before_bar x load before scale = pick (eqb load 0) Silent (pick (eqb before 0) Silent (Row before_row (x - 15) (bar_high scale before) 0 0))

-- "on top of what its earlier clashing cells send"
unfoldable pub load_bar : (x load before scale : ℕ) → Phrase
load_bar x load before scale =
    pick (eqb load 0) Silent (Row load_row (x - 15) (620 - bar_high scale before) (bar_high scale (load + before) - bar_high scale before) 0)

-- whether a bar is over the room
abbrev pub is_over : (load before most : ℕ) → Bool
is_over load before most = ltb 0 load && ltb most (load + before)

-- such a bar has a mark, so that it is seen without colour
unfoldable pub over_mark : (x load before most scale : ℕ) → Phrase
over_mark x load before most scale = pick (is_over load before most) (Row over_mark_row x (612 - bar_high scale (load + before)) 0 0) Silent

-- a bar, and the load as a number
abbrev pub bar_by : (x load before most scale : ℕ) → List ℕ
bar_by x load before most scale =
    phrase load_lines (before_bar x load before scale)
    ++ (phrase load_lines (load_bar x load before scale)
    ++ (phrase load_lines (over_mark x load before most scale) ++ phrase load_lines (Row amount_row x load 0 0)))

-- ---- of a site

module _ (s : Site) where
  -- what the whole height stands for: the greatest of the room and the demands of cells with a load, and not 0
  unfoldable pub bar_scale : ℕ
  bar_scale = greater 1 (greater (room (net_of s)) (most_demand (net_of s) (loaded (net_of s))))

  -- of a cell, and of the first n cells
  abbrev pub bar_said : ℕ → List ℕ
  bar_said i = bar_by (cell_at s i) (load_at s i) (lower (net_of s) i) (room (net_of s)) bar_scale

  abbrev pub bars_said : ℕ → List ℕ
  bars_said n = in_turn bar_said n

  -- "against the room": a line across, and its number
  abbrev pub room_line : Phrase
  room_line =
      Row room_row (620 - bar_high bar_scale (room (net_of s))) (s.cells * cell_step s) (627 - bar_high bar_scale (room (net_of s))) (room (net_of s))
