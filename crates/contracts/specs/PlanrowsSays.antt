-- The equalities that the contracts of crate `planrows` state: r is the answer, and x' what a lent x holds afterwards.
-- Made by tools/surface from the source.
use Rattle.std.specs.Prelude.{List, get_or, ℕ, ◌*◌, ◌≡◌}
use Rattle.laws.specs.Bits.{bit_in, set_bit}
use Rattle.planrows.specs.Row.{marks_in, near_in, opens, row_planned}
use Rattle.rows.specs.Bars.{bar_row}
use Rattle.rows.specs.Stretch.{filled_by}
use Rattle.rows.specs.declared.Filled.{Filled}

-- planrows::near_of
pub record PlanrowsNearOf (clash : List ℕ) (i : ℕ) (r : ℕ) : Type 0 where
  pub answer : r ≡ near_in clash i

-- planrows::group_of
pub record PlanrowsGroupOf (clash : List ℕ) (i : ℕ) (r : ℕ) : Type 0 where
  pub answer : r ≡ set_bit (near_in clash i) i

-- planrows::place_of
pub record PlanrowsPlaceOf (places : List ℕ) (j : ℕ) (r : ℕ) : Type 0 where
  pub answer : r ≡ get_or places j 0

-- planrows::plan_row
pub record PlanrowsPlanRow (table : List ℕ) (slots : ℕ) (channels : ℕ) (i : ℕ) (load : ℕ) (clash : List ℕ) (mask : List ℕ) (starts : List ℕ)
    (ends : List ℕ) (r : Filled) (table' : List ℕ) : Type 0 where
  pub answer : r ≡ filled_by slots channels load (bar_row (opens mask) 0 (marks_in (slots * channels) (bit_in clash) table i))
  pub table_after : table' ≡ row_planned (slots * channels) (bit_in clash) (opens mask) i load table
