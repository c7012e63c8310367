-- The range map: "cells in a line along the tunnel, an arc for a two-way range, an arrow below for a one-way one, dotted for a clash by a third cell, spare
-- cells open, the heaviest clash marked". Cells are counted from 0.
use Rattle.std.specs.Prelude.{min, ℕ, ◌+◌, ◌-◌, ◌*◌, ◌/◌, Bool, ◌&&◌, not, List, [], ◌∷◌, ◌++◌, eqb, ltb}
use Prim.Native.String.{String}
use Rattle.laws.specs.Bits.{bit_at}
use Rattle.laws.specs.Choice.{pick}
use Rattle.faults.specs.Faults.{in_turn}
use Rattle.site.specs.Record.{load_at}
use Rattle.site.specs.Reach.{reaches, clash_of}
use Rattle.site.specs.declared.Site.{Site}
use Rattle.phrases.specs.Phrases.{phrase}
use Rattle.phrases.specs.declared.Phrase.{Phrase}
use Rattle.phrases.specs.declared.Phrase.TheVariants.{Silent, Row}

-- from the middle of a cell, by a point above or below, to the middle of another: a range both ways, a range one way, a clash by a third cell
unfoldable pub reach_lines : List String
reach_lines =
    "<path class=\"arc\" d=\"M@1 226Q@2 @3 @4 226\"/>\n"
    ∷ "<path class=\"arrow\" d=\"M@1 276Q@2 @3 @4 276\"/>\n"
    ∷ "<path class=\"third\" d=\"M@1 226Q@2 @3 @4 226\"/>\n"
    ∷ []

abbrev pub arc_row : ℕ
arc_row = 0

abbrev pub arrow_row : ℕ
arrow_row = 1

abbrev pub dotted_row : ℕ
dotted_row = 2

-- the first two once more: they are what is read back
abbrev pub arc_line : String
arc_line = "<path class=\"arc\" d=\"M@1 226Q@2 @3 @4 226\"/>\n"

abbrev pub arrow_line : String
arrow_line = "<path class=\"arrow\" d=\"M@1 276Q@2 @3 @4 276\"/>\n"

-- a cell with a load and a spare one, each with its number; and the ring of a cell of the heaviest clash
unfoldable pub circle_lines : List String
circle_lines =
    "<circle class=\"cell\" cx=\"@1\" cy=\"250\" r=\"21\"/>\n<text class=\"on\" x=\"@1\" y=\"259\">@2</text>\n"
    ∷ "<circle class=\"spare\" cx=\"@1\" cy=\"250\" r=\"21\"/>\n<text class=\"off\" x=\"@1\" y=\"259\">@2</text>\n"
    ∷ "<circle class=\"heavy\" cx=\"@1\" cy=\"250\" r=\"27\"/>\n"
    ∷ []

abbrev pub loaded_row : ℕ
loaded_row = 0

abbrev pub spare_row : ℕ
spare_row = 1

abbrev pub ring_row : ℕ
ring_row = 2

module _ (s : Site) where
  -- from a cell to the next: all of them in 1,720 units, and none farther than 860
  unfoldable pub cell_step : ℕ
  cell_step = min 860 (1720 / s.cells)

  -- the middle of a cell
  abbrev pub cell_at : ℕ → ℕ
  cell_at i = 100 + (i * cell_step + cell_step / 2)

  -- how far up or down a line between two cells is drawn: the farther they are apart, the more, but never past 220
  unfoldable pub bend_of : (a b : ℕ) → ℕ
  bend_of a b = 20 + 200 * ((a - b) + (b - a)) / (1 + (((a - b) + (b - a)) + s.cells / 8))

  -- "an arc for a two-way range", of two cells the lower first
  abbrev pub both_ways : (a b : ℕ) → Bool
  both_ways a b = ltb a b && (reaches s.reach a b && reaches s.reach b a)

  -- "an arrow below for a one-way one"
  abbrev pub one_way : (a b : ℕ) → Bool
  one_way a b = reaches s.reach a b && not (reaches s.reach b a)

  -- "dotted for a clash by a third cell", where neither reaches the other
  abbrev pub drawn_third : (a b : ℕ) → Bool
  drawn_third a b = ltb a b && (not (reaches s.reach b a) && clash_of s a b)

  -- the line from a cell to another, or nothing
  unfoldable pub line_phrase : (a b : ℕ) → Phrase
  line_phrase a b =
      pick (both_ways a b) (Row arc_row (cell_at a) ((cell_at a + cell_at b) / 2) (226 - bend_of a b) (cell_at b))
      (pick (one_way a b) (Row arrow_row (cell_at a) ((cell_at a + cell_at b) / 2) (276 + bend_of a b) (cell_at b))
      (pick (drawn_third a b) (Row dotted_row (cell_at a) ((cell_at a + cell_at b) / 2) (226 - bend_of a b) (cell_at b)) Silent))

  -- the lines from a cell to the first n cells, and those of the first n cells
  abbrev pub lines_of : (a n : ℕ) → List ℕ
  lines_of a n = in_turn (λ b. phrase reach_lines (line_phrase a b)) n

  abbrev pub lines_said : ℕ → List ℕ
  lines_said n = in_turn (λ a. lines_of a s.cells) n

  -- a cell, "spare cells open", and "the heaviest clash marked": a word has its cells
  abbrev pub circle_phrase : ℕ → Phrase
  circle_phrase i = Row (pick (eqb (load_at s i) 0) spare_row loaded_row) (cell_at i) (i + 1) 0 0

  abbrev pub ring_phrase : (heavy i : ℕ) → Phrase
  ring_phrase heavy i = pick (bit_at heavy i) (Row ring_row (cell_at i) 0 0 0) Silent

  abbrev pub nodes_said : (heavy n : ℕ) → List ℕ
  nodes_said heavy n = in_turn (λ i. phrase circle_lines (circle_phrase i) ++ phrase circle_lines (ring_phrase heavy i)) n
