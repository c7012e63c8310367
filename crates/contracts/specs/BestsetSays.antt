-- The equalities that the contracts of crate `bestset` state: r is the answer, and x' what a lent x holds afterwards.
-- Made by tools/surface from the source.
use Rattle.std.specs.Prelude.{List, ℕ, ◌≡◌}
use Rattle.bestset.specs.Code.{best_in}

-- bestset::best_set
pub record BestsetBestSet (rooms : List ℕ) (clash : List ℕ) (cell : List ℕ) (share : List ℕ) (value : List ℕ) (count : ℕ) (r : ℕ) : Type 0 where
  pub answer : r ≡ best_in rooms clash cell share value count
