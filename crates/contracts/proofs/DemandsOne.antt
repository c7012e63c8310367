-- For any arguments one answer and one content of what is lent meet the contract, and no other, in crate `demands`: by its equalities alone.
-- Made by tools/surface from the source. Assumes nothing.
use Rattle.std.specs.Prelude.{List, get_or, refl, ℕ, ◌≡◌}
use Rattle.contracts.specs.DemandsSays.{DemandsDemand, DemandsFirstOver, DemandsMostDemand}
use Rattle.demands.specs.Words.{demand_at, demand_counted, over_in}
use Rattle.laws.specs.Most.{most}
use Rattle.laws.specs.Search.{first}

-- demands::demand
pub demands_demand-one : (loads : List ℕ) (row : ℕ) (i : ℕ)
    → (r : ℕ) × (DemandsDemand loads row i r)
    × ((q : ℕ) → DemandsDemand loads row i q → (q ≡ r))
demands_demand-one loads row i = (
  demand_at loads row i,
  record { answer = refl },
  λ q says. says.answer,
)

-- demands::first_over
pub demands_first_over-one : (loads : List ℕ) (clash : List ℕ) (who : ℕ) (cells : ℕ) (room : ℕ)
    → (r : ℕ) × (DemandsFirstOver loads clash who cells room r)
    × ((q : ℕ) → DemandsFirstOver loads clash who cells room q → (q ≡ r))
demands_first_over-one loads clash who cells room = (
  first (λ i. over_in loads (get_or clash i 0) who room i) 0 cells,
  record { answer = refl },
  λ q says. says.answer,
)

-- demands::most_demand
pub demands_most_demand-one : (loads : List ℕ) (clash : List ℕ) (who : ℕ) (cells : ℕ)
    → (r : ℕ) × (DemandsMostDemand loads clash who cells r)
    × ((q : ℕ) → DemandsMostDemand loads clash who cells q → (q ≡ r))
demands_most_demand-one loads clash who cells = (
  most (λ i. demand_counted loads (get_or clash i 0) who i) cells,
  record { answer = refl },
  λ q says. says.answer,
)
