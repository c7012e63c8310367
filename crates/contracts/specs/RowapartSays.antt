-- The equalities that the contracts of crate `rowapart` state: r is the answer, and x' what a lent x holds afterwards.
-- Made by tools/surface from the source.
use Rattle.std.specs.Prelude.{List, ℕ, ◌*◌, ◌≡◌}
use Rattle.laws.specs.Bits.{bit_in}
use Rattle.planrows.specs.Row.{marks_in, opens}
use Rattle.rowapart.specs.Code.{mask_size}
use Rattle.rows.specs.Bars.{bar_row}
use Rattle.rows.specs.Stretch.{filled_by}
use Rattle.rows.specs.declared.Filled.{Filled}
use Rattle.theory.specs.Greedy.{fill}

-- rowapart::make_row
pub record RowapartMakeRow (row : List ℕ) (table : List ℕ) (slots : ℕ) (channels : ℕ) (i : ℕ) (load : ℕ) (clash : List ℕ) (mask : List ℕ)
    (starts : List ℕ) (ends : List ℕ) (r : Filled) (row' : List ℕ) : Type 0 where
  pub answer : r ≡ filled_by slots channels load (bar_row (opens mask) 0 (marks_in (slots * channels) (bit_in clash) table i))
  pub row_after : row' ≡ fill (opens mask) 0 load (marks_in (slots * channels) (bit_in clash) table i)

-- rowapart::mask_size
pub record RowapartMaskSize (blocked : List ℕ) (n : ℕ) (r : ℕ) : Type 0 where
  pub answer : r ≡ mask_size blocked n
