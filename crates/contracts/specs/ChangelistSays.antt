-- The equalities that the contracts of crate `changelist` state: r is the answer, and x' what a lent x holds afterwards.
-- Made by tools/surface from the source.
use Rattle.std.specs.Prelude.{List, ℕ, ◌*◌, ◌+◌, ◌≡◌}
use Rattle.changelist.specs.Sets.{cell_count, list_with, table_with}
use Rattle.mending.specs.Changes.{cell_changes, follow}
use Rattle.standing.specs.Sets.{stands_in}
use Rattle.std.proofs.lemmas.List.Edits.{sets}

-- changelist::list_cell
pub record ChangelistListCell (table : List ℕ) (list : List ℕ) (stands : List ℕ) (old : List ℕ) (w : ℕ) (n : ℕ) (i : ℕ) (at : ℕ) (r : ℕ)
    (table' : List ℕ) (list' : List ℕ) : Type 0 where
  pub answer : r ≡ at + 4 * cell_count w i stands old
  pub table_after : table' ≡ follow n (cell_changes (stands_in w stands) (stands_in w old) i (64 * w)) table
  pub list_after : list' ≡ sets list at (cell_changes (stands_in w stands) (stands_in w old) i (64 * w))

-- changelist::list_all
pub record ChangelistListAll (table : List ℕ) (list : List ℕ) (stands : List ℕ) (old : List ℕ) (w : ℕ) (n : ℕ) (cells : ℕ) (table' : List ℕ)
    (list' : List ℕ) : Type 0 where
  pub table_after : table' ≡ table_with w cells n stands old table
  pub list_after : list' ≡ list_with w cells stands old list
