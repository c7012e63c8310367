-- For any arguments one answer and one content of what is lent meet the contract, and no other, in crate `say_grid`: by its equalities alone.
-- Made by tools/surface from the source. Assumes nothing.
use Rattle.std.specs.Prelude.{List, length, refl, ℕ, ◌+◌, ◌≡◌}
use Rattle.contracts.specs.SayGridSays.{SayGridPieceSlots, SayGridPutGap, SayGridPutGridLine, SayGridPutLegend}
use Rattle.phrases.specs.Phrases.{phrase}
use Rattle.phrases.specs.declared.Phrase.TheVariants.{Row}
use Rattle.say_grid.specs.Grid.{grid_line, piece_slots}
use Rattle.say_grid.specs.Lines.{grid_end_row, grid_lines, legend_row}
use Rattle.site.specs.declared.Site.{Site}
use Rattle.std.proofs.lemmas.List.Edits.{sets}

-- say_grid::put_legend
pub say_grid_put_legend-one : (out : List ℕ)
    → (r : ℕ) × (out' : List ℕ) × (SayGridPutLegend out r out')
    × ((q : ℕ) (out'' : List ℕ) → SayGridPutLegend out q out'' → (q ≡ r) × (out'' ≡ out'))
say_grid_put_legend-one out = (
  0 + length (phrase grid_lines (Row legend_row 0 0 0 0)),
  sets out 0 (phrase grid_lines (Row legend_row 0 0 0 0)),
  record { answer = refl; out_after = refl },
  λ q out'' says. (says.answer, says.out_after),
)

-- say_grid::put_gap
pub say_grid_put_gap-one : (out : List ℕ)
    → (r : ℕ) × (out' : List ℕ) × (SayGridPutGap out r out')
    × ((q : ℕ) (out'' : List ℕ) → SayGridPutGap out q out'' → (q ≡ r) × (out'' ≡ out'))
say_grid_put_gap-one out = (
  0 + length (phrase grid_lines (Row grid_end_row 0 0 0 0)),
  sets out 0 (phrase grid_lines (Row grid_end_row 0 0 0 0)),
  record { answer = refl; out_after = refl },
  λ q out'' says. (says.answer, says.out_after),
)

-- say_grid::put_grid_line
pub say_grid_put_grid_line-one : (out : List ℕ) (site : Site) (table : List ℕ) (line : ℕ) (from : ℕ) (many : ℕ)
    → (r : ℕ) × (out' : List ℕ) × (SayGridPutGridLine out site table line from many r out')
    × ((q : ℕ) (out'' : List ℕ) → SayGridPutGridLine out site table line from many q out'' → (q ≡ r) × (out'' ≡ out'))
say_grid_put_grid_line-one out site table line from many = (
  0 + length (grid_line site table line from many),
  sets out 0 (grid_line site table line from many),
  record { answer = refl; out_after = refl },
  λ q out'' says. (says.answer, says.out_after),
)

-- say_grid::piece_slots
pub say_grid_piece_slots-one : (site : Site) (table : List ℕ) (width : ℕ) (from : ℕ)
    → (r : ℕ) × (SayGridPieceSlots site table width from r)
    × ((q : ℕ) → SayGridPieceSlots site table width from q → (q ≡ r))
say_grid_piece_slots-one site table width from = (
  piece_slots site table width from,
  record { answer = refl },
  λ q says. says.answer,
)
