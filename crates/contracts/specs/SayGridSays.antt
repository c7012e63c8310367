-- The equalities that the contracts of crate `say_grid` state: r is the answer, and x' what a lent x holds afterwards.
-- Made by tools/surface from the source.
use Rattle.std.specs.Prelude.{List, length, ℕ, ◌+◌, ◌≡◌}
use Rattle.phrases.specs.Phrases.{phrase}
use Rattle.phrases.specs.declared.Phrase.TheVariants.{Row}
use Rattle.say_grid.specs.Grid.{grid_line, piece_slots}
use Rattle.say_grid.specs.Lines.{grid_end_row, grid_lines, legend_row}
use Rattle.site.specs.declared.Site.{Site}
use Rattle.std.proofs.lemmas.List.Edits.{sets}

-- say_grid::put_legend
pub record SayGridPutLegend (out : List ℕ) (r : ℕ) (out' : List ℕ) : Type 0 where
  pub answer : r ≡ 0 + length (phrase grid_lines (Row legend_row 0 0 0 0))
  pub out_after : out' ≡ sets out 0 (phrase grid_lines (Row legend_row 0 0 0 0))

-- say_grid::put_gap
pub record SayGridPutGap (out : List ℕ) (r : ℕ) (out' : List ℕ) : Type 0 where
  pub answer : r ≡ 0 + length (phrase grid_lines (Row grid_end_row 0 0 0 0))
  pub out_after : out' ≡ sets out 0 (phrase grid_lines (Row grid_end_row 0 0 0 0))

-- say_grid::put_grid_line
pub record SayGridPutGridLine (out : List ℕ) (site : Site) (table : List ℕ) (line : ℕ) (from : ℕ) (many : ℕ) (r : ℕ) (out' : List ℕ) : Type 0 where
  pub answer : r ≡ 0 + length (grid_line site table line from many)
  pub out_after : out' ≡ sets out 0 (grid_line site table line from many)

-- say_grid::piece_slots
pub record SayGridPieceSlots (site : Site) (table : List ℕ) (width : ℕ) (from : ℕ) (r : ℕ) : Type 0 where
  pub answer : r ≡ piece_slots site table width from
