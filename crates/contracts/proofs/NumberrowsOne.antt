-- For any arguments one answer and one content of what is lent meet the contract, and no other, in crate `numberrows`: by its equalities alone.
-- Made by tools/surface from the source. Assumes nothing.
use Rattle.std.specs.Prelude.{Bool, List, Option, refl, ℕ, ◌≡◌}
use Rattle.contracts.specs.NumberrowsSays.{NumberrowsAllClash, NumberrowsCarryRows, NumberrowsCellAt, NumberrowsMovedLoads, NumberrowsMovedRows}
use Rattle.contracts.specs.NumberrowsSays.{NumberrowsNumberCells}
use Rattle.laws.specs.Bits.{bit_in}
use Rattle.numberrows.specs.Numbers.{moved_by, moved_rows, numbers_of}
use Rattle.numberrows.specs.Words.{close_in}
use Rattle.numberrows.specs.declared.Numbers.{Numbers}
use Rattle.renumbering.specs.Carry.{carried}
use Rattle.renumbering.specs.Numbering.{index_at, numbering}

-- numberrows::all_clash
pub numberrows_all_clash-one : (rows : List ℕ) (near : ℕ)
    → (r : Bool) × (NumberrowsAllClash rows near r)
    × ((q : Bool) → NumberrowsAllClash rows near q → (q ≡ r))
numberrows_all_clash-one rows near = (
  close_in rows near,
  record { answer = refl },
  λ q says. says.answer,
)

-- numberrows::number_cells
pub numberrows_number_cells-one : (rows : List ℕ) (cells : ℕ)
    → (r : Option Numbers) × (NumberrowsNumberCells rows cells r)
    × ((q : Option Numbers) → NumberrowsNumberCells rows cells q → (q ≡ r))
numberrows_number_cells-one rows cells = (
  numbers_of (numbering 32 (bit_in rows) cells),
  record { answer = refl },
  λ q says. says.answer,
)

-- numberrows::cell_at
pub numberrows_cell_at-one : (numbers : List ℕ) (a : ℕ)
    → (r : ℕ) × (NumberrowsCellAt numbers a r)
    × ((q : ℕ) → NumberrowsCellAt numbers a q → (q ≡ r))
numberrows_cell_at-one numbers a = (
  index_at numbers a,
  record { answer = refl },
  λ q says. says.answer,
)

-- numberrows::moved_loads
pub numberrows_moved_loads-one : (loads : List ℕ) (old : List ℕ) (cells : ℕ)
    → (r : List ℕ) × (NumberrowsMovedLoads loads old cells r)
    × ((q : List ℕ) → NumberrowsMovedLoads loads old cells q → (q ≡ r))
numberrows_moved_loads-one loads old cells = (
  moved_by old cells loads,
  record { answer = refl },
  λ q says. says.answer,
)

-- numberrows::moved_rows
pub numberrows_moved_rows-one : (rows : List ℕ) (old : List ℕ) (cells : ℕ)
    → (r : List ℕ) × (NumberrowsMovedRows rows old cells r)
    × ((q : List ℕ) → NumberrowsMovedRows rows old cells q → (q ≡ r))
numberrows_moved_rows-one rows old cells = (
  moved_rows old cells rows,
  record { answer = refl },
  λ q says. says.answer,
)

-- numberrows::carry_rows
pub numberrows_carry_rows-one : (from : List ℕ) (to : List ℕ) (new : List ℕ) (cells : ℕ) (width : ℕ)
    → (to' : List ℕ) × (NumberrowsCarryRows from to new cells width to')
    × ((to'' : List ℕ) → NumberrowsCarryRows from to new cells width to'' → (to'' ≡ to'))
numberrows_carry_rows-one from to new cells width = (
  carried (index_at new) width from to cells,
  record { to_after = refl },
  λ to'' says. says.to_after,
)
