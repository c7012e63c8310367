-- The equalities that the contracts of crate `rows` state: r is the answer, and x' what a lent x holds afterwards.
-- Made by tools/surface from the source.
use Rattle.std.specs.Prelude.{List, eqb, length, replicate, take, ℕ, ◌*◌, ◌≡◌}
use Rattle.laws.specs.Choice.{pick}
use Rattle.laws.specs.Part.{list_of, part, put}
use Rattle.rows.specs.Bars.{lifted}
use Rattle.rows.specs.Stretch.{cover_at, filled_by}
use Rattle.rows.specs.declared.Filled.{Filled}
use Rattle.theory.specs.Greedy.{fill, forbid, sends}
use Rattle.theory.specs.Net.{unblocked}

-- rows::fill_row
pub record RowsFillRow (row : List ℕ) (slots : ℕ) (channels : ℕ) (load : ℕ) (r : Filled) (row' : List ℕ) : Type 0 where
  pub answer : r ≡ filled_by slots channels load row
  pub row_after : row' ≡ fill unblocked 0 load row

-- rows::mark
pub record RowsMark (earlier : ℕ) (byte : ℕ) (r : ℕ) : Type 0 where
  pub answer : r ≡ pick (sends earlier) 2 byte

-- rows::forbid_row
pub record RowsForbidRow (table : List ℕ) (n : ℕ) (j : ℕ) (i : ℕ) (start : ℕ) (end : ℕ) (table' : List ℕ) : Type 0 where
  pub table_after : table' ≡ put (i * n) n (forbid (part (j * n) n table) (part (i * n) n table)) table

-- rows::cover
pub record RowsCover (earlier : ℕ) (byte : ℕ) (r : ℕ) : Type 0 where
  pub answer : r ≡ pick (eqb earlier 0) byte 2

-- rows::cover_row
pub record RowsCoverRow (table : List ℕ) (n : ℕ) (j : ℕ) (i : ℕ) (table' : List ℕ) : Type 0 where
  pub table_after : table' ≡ put (i * n) n (list_of (cover_at n table j i) n) table

-- rows::clear
pub record RowsClear (bytes : List ℕ) (bytes' : List ℕ) : Type 0 where
  pub bytes_after : bytes' ≡ replicate (length bytes) 0

-- rows::lay_mask
pub record RowsLayMask (row : List ℕ) (mask : List ℕ) (row' : List ℕ) : Type 0 where
  pub row_after : row' ≡ take (length row) mask

-- rows::lift
pub record RowsLift (row : List ℕ) (row' : List ℕ) : Type 0 where
  pub row_after : row' ≡ lifted row
