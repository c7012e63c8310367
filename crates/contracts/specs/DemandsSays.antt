-- The equalities that the contracts of crate `demands` state: r is the answer, and x' what a lent x holds afterwards.
-- Made by tools/surface from the source.
use Rattle.std.specs.Prelude.{List, get_or, ℕ, ◌≡◌}
use Rattle.demands.specs.Words.{demand_at, demand_counted, over_in}
use Rattle.laws.specs.Most.{most}
use Rattle.laws.specs.Search.{first}

-- demands::demand
pub record DemandsDemand (loads : List ℕ) (row : ℕ) (i : ℕ) (r : ℕ) : Type 0 where
  pub answer : r ≡ demand_at loads row i

-- demands::first_over
pub record DemandsFirstOver (loads : List ℕ) (clash : List ℕ) (who : ℕ) (cells : ℕ) (room : ℕ) (r : ℕ) : Type 0 where
  pub answer : r ≡ first (λ i. over_in loads (get_or clash i 0) who room i) 0 cells

-- demands::most_demand
pub record DemandsMostDemand (loads : List ℕ) (clash : List ℕ) (who : ℕ) (cells : ℕ) (r : ℕ) : Type 0 where
  pub answer : r ≡ most (λ i. demand_counted loads (get_or clash i 0) who i) cells
