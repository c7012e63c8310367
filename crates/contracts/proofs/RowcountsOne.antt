-- For any arguments one answer and one content of what is lent meet the contract, and no other, in crate `rowcounts`: by its equalities alone.
-- Made by tools/surface from the source. Assumes nothing.
use Rattle.std.specs.Prelude.{List, refl, ℕ, ◌≡◌}
use Rattle.contracts.specs.RowcountsSays.{RowcountsCellCount, RowcountsLowestWrong}
use Rattle.laws.specs.Sum.{count}
use Rattle.rowcounts.specs.Counts.{load_net}
use Rattle.theory.specs.Greedy.{reserved}
use Rattle.theory.specs.Verdict.{lowest_wrong}

-- rowcounts::cell_count
pub rowcounts_cell_count-one : (table : List ℕ) (n : ℕ) (i : ℕ)
    → (r : ℕ) × (RowcountsCellCount table n i r)
    × ((q : ℕ) → RowcountsCellCount table n i q → (q ≡ r))
rowcounts_cell_count-one table n i = (
  count (reserved n table i) n,
  record { answer = refl },
  λ q says. says.answer,
)

-- rowcounts::lowest_wrong
pub rowcounts_lowest_wrong-one : (table : List ℕ) (n : ℕ) (loads : List ℕ) (cells : ℕ)
    → (r : ℕ) × (RowcountsLowestWrong table n loads cells r)
    × ((q : ℕ) → RowcountsLowestWrong table n loads cells q → (q ≡ r))
rowcounts_lowest_wrong-one table n loads cells = (
  lowest_wrong (load_net cells n loads) (reserved n table),
  record { answer = refl },
  λ q says. says.answer,
)
