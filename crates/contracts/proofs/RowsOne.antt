-- For any arguments one answer and one content of what is lent meet the contract, and no other, in crate `rows`: by its equalities alone.
-- Made by tools/surface from the source. Assumes nothing.
use Rattle.std.specs.Prelude.{List, eqb, length, refl, replicate, take, ℕ, ◌*◌, ◌≡◌}
use Rattle.contracts.specs.RowsSays.{RowsClear, RowsCover, RowsCoverRow, RowsFillRow, RowsForbidRow, RowsLayMask, RowsLift, RowsMark}
use Rattle.laws.specs.Choice.{pick}
use Rattle.laws.specs.Part.{list_of, part, put}
use Rattle.rows.specs.Bars.{lifted}
use Rattle.rows.specs.Stretch.{cover_at, filled_by}
use Rattle.rows.specs.declared.Filled.{Filled}
use Rattle.theory.specs.Greedy.{fill, forbid, sends}
use Rattle.theory.specs.Net.{unblocked}

-- rows::fill_row
pub rows_fill_row-one : (row : List ℕ) (slots : ℕ) (channels : ℕ) (load : ℕ)
    → (r : Filled) × (row' : List ℕ) × (RowsFillRow row slots channels load r row')
    × ((q : Filled) (row'' : List ℕ) → RowsFillRow row slots channels load q row'' → (q ≡ r) × (row'' ≡ row'))
rows_fill_row-one row slots channels load = (
  filled_by slots channels load row,
  fill unblocked 0 load row,
  record { answer = refl; row_after = refl },
  λ q row'' says. (says.answer, says.row_after),
)

-- rows::mark
pub rows_mark-one : (earlier : ℕ) (byte : ℕ)
    → (r : ℕ) × (RowsMark earlier byte r)
    × ((q : ℕ) → RowsMark earlier byte q → (q ≡ r))
rows_mark-one earlier byte = (
  pick (sends earlier) 2 byte,
  record { answer = refl },
  λ q says. says.answer,
)

-- rows::forbid_row
pub rows_forbid_row-one : (table : List ℕ) (n : ℕ) (j : ℕ) (i : ℕ) (start : ℕ) (end : ℕ)
    → (table' : List ℕ) × (RowsForbidRow table n j i start end table')
    × ((table'' : List ℕ) → RowsForbidRow table n j i start end table'' → (table'' ≡ table'))
rows_forbid_row-one table n j i start end = (
  put (i * n) n (forbid (part (j * n) n table) (part (i * n) n table)) table,
  record { table_after = refl },
  λ table'' says. says.table_after,
)

-- rows::cover
pub rows_cover-one : (earlier : ℕ) (byte : ℕ)
    → (r : ℕ) × (RowsCover earlier byte r)
    × ((q : ℕ) → RowsCover earlier byte q → (q ≡ r))
rows_cover-one earlier byte = (
  pick (eqb earlier 0) byte 2,
  record { answer = refl },
  λ q says. says.answer,
)

-- rows::cover_row
pub rows_cover_row-one : (table : List ℕ) (n : ℕ) (j : ℕ) (i : ℕ)
    → (table' : List ℕ) × (RowsCoverRow table n j i table')
    × ((table'' : List ℕ) → RowsCoverRow table n j i table'' → (table'' ≡ table'))
rows_cover_row-one table n j i = (
  put (i * n) n (list_of (cover_at n table j i) n) table,
  record { table_after = refl },
  λ table'' says. says.table_after,
)

-- rows::clear
pub rows_clear-one : (bytes : List ℕ)
    → (bytes' : List ℕ) × (RowsClear bytes bytes')
    × ((bytes'' : List ℕ) → RowsClear bytes bytes'' → (bytes'' ≡ bytes'))
rows_clear-one bytes = (
  replicate (length bytes) 0,
  record { bytes_after = refl },
  λ bytes'' says. says.bytes_after,
)

-- rows::lay_mask
pub rows_lay_mask-one : (row : List ℕ) (mask : List ℕ)
    → (row' : List ℕ) × (RowsLayMask row mask row')
    × ((row'' : List ℕ) → RowsLayMask row mask row'' → (row'' ≡ row'))
rows_lay_mask-one row mask = (
  take (length row) mask,
  record { row_after = refl },
  λ row'' says. says.row_after,
)

-- rows::lift
pub rows_lift-one : (row : List ℕ)
    → (row' : List ℕ) × (RowsLift row row')
    × ((row'' : List ℕ) → RowsLift row row'' → (row'' ≡ row'))
rows_lift-one row = (
  lifted row,
  record { row_after = refl },
  λ row'' says. says.row_after,
)
