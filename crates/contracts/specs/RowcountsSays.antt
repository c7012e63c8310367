-- The equalities that the contracts of crate `rowcounts` state: r is the answer, and x' what a lent x holds afterwards.
-- Made by tools/surface from the source.
use Rattle.std.specs.Prelude.{List, ℕ, ◌≡◌}
use Rattle.laws.specs.Sum.{count}
use Rattle.rowcounts.specs.Counts.{load_net}
use Rattle.theory.specs.Greedy.{reserved}
use Rattle.theory.specs.Verdict.{lowest_wrong}

-- rowcounts::cell_count
pub record RowcountsCellCount (table : List ℕ) (n : ℕ) (i : ℕ) (r : ℕ) : Type 0 where
  pub answer : r ≡ count (reserved n table i) n

-- rowcounts::lowest_wrong
pub record RowcountsLowestWrong (table : List ℕ) (n : ℕ) (loads : List ℕ) (cells : ℕ) (r : ℕ) : Type 0 where
  pub answer : r ≡ lowest_wrong (load_net cells n loads) (reserved n table)
