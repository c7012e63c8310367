-- For any arguments one answer and one content of what is lent meet the contract, and no other, in crate `changelist`: by its equalities alone.
-- Made by tools/surface from the source. Assumes nothing.
use Rattle.std.specs.Prelude.{List, refl, ℕ, ◌*◌, ◌+◌, ◌≡◌}
use Rattle.changelist.specs.Sets.{cell_count, list_with, table_with}
use Rattle.contracts.specs.ChangelistSays.{ChangelistListAll, ChangelistListCell}
use Rattle.mending.specs.Changes.{cell_changes, follow}
use Rattle.standing.specs.Sets.{stands_in}
use Rattle.std.proofs.lemmas.List.Edits.{sets}

-- changelist::list_cell
pub changelist_list_cell-one : (table : List ℕ) (list : List ℕ) (stands : List ℕ) (old : List ℕ) (w : ℕ) (n : ℕ) (i : ℕ) (at : ℕ)
    → (r : ℕ) × (table' : List ℕ) × (list' : List ℕ) × (ChangelistListCell table list stands old w n i at r table' list')
    × ((q : ℕ) (table'' : List ℕ) (list'' : List ℕ) → ChangelistListCell table list stands old w n i at q table'' list''
    → (q ≡ r) × (table'' ≡ table') × (list'' ≡ list'))
changelist_list_cell-one table list stands old w n i at = (
  at + 4 * cell_count w i stands old,
  follow n (cell_changes (stands_in w stands) (stands_in w old) i (64 * w)) table,
  sets list at (cell_changes (stands_in w stands) (stands_in w old) i (64 * w)),
  record { answer = refl; table_after = refl; list_after = refl },
  λ q table'' list'' says. (says.answer, says.table_after, says.list_after),
)

-- changelist::list_all
pub changelist_list_all-one : (table : List ℕ) (list : List ℕ) (stands : List ℕ) (old : List ℕ) (w : ℕ) (n : ℕ) (cells : ℕ)
    → (table' : List ℕ) × (list' : List ℕ) × (ChangelistListAll table list stands old w n cells table' list')
    × ((table'' : List ℕ) (list'' : List ℕ) → ChangelistListAll table list stands old w n cells table'' list'' → (table'' ≡ table') × (list'' ≡ list'))
changelist_list_all-one table list stands old w n cells = (
  table_with w cells n stands old table,
  list_with w cells stands old list,
  record { table_after = refl; list_after = refl },
  λ table'' list'' says. (says.table_after, says.list_after),
)
