-- The equalities that the contracts of crate `numberrows` state: r is the answer, and x' what a lent x holds afterwards.
-- Made by tools/surface from the source.
use Rattle.std.specs.Prelude.{Bool, List, Option, ℕ, ◌≡◌}
use Rattle.laws.specs.Bits.{bit_in}
use Rattle.numberrows.specs.Numbers.{moved_by, moved_rows, numbers_of}
use Rattle.numberrows.specs.Words.{close_in}
use Rattle.numberrows.specs.declared.Numbers.{Numbers}
use Rattle.renumbering.specs.Carry.{carried}
use Rattle.renumbering.specs.Numbering.{index_at, numbering}

-- numberrows::all_clash
pub record NumberrowsAllClash (rows : List ℕ) (near : ℕ) (r : Bool) : Type 0 where
  pub answer : r ≡ close_in rows near

-- numberrows::number_cells
pub record NumberrowsNumberCells (rows : List ℕ) (cells : ℕ) (r : Option Numbers) : Type 0 where
  pub answer : r ≡ numbers_of (numbering 32 (bit_in rows) cells)

-- numberrows::cell_at
pub record NumberrowsCellAt (numbers : List ℕ) (a : ℕ) (r : ℕ) : Type 0 where
  pub answer : r ≡ index_at numbers a

-- numberrows::moved_loads
pub record NumberrowsMovedLoads (loads : List ℕ) (old : List ℕ) (cells : ℕ) (r : List ℕ) : Type 0 where
  pub answer : r ≡ moved_by old cells loads

-- numberrows::moved_rows
pub record NumberrowsMovedRows (rows : List ℕ) (old : List ℕ) (cells : ℕ) (r : List ℕ) : Type 0 where
  pub answer : r ≡ moved_rows old cells rows

-- numberrows::carry_rows
pub record NumberrowsCarryRows (from : List ℕ) (to : List ℕ) (new : List ℕ) (cells : ℕ) (width : ℕ) (to' : List ℕ) : Type 0 where
  pub to_after : to' ≡ carried (index_at new) width from to cells
