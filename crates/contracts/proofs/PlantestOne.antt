-- For any arguments one answer and one content of what is lent meet the contract, and no other, in crate `plantest`: by its equalities alone.
-- Made by tools/surface from the source. Assumes nothing.
use Rattle.std.specs.Prelude.{Bool, List, refl, ℕ, ◌*◌, ◌≡◌}
use Rattle.contracts.specs.PlantestSays.{PlantestIsPlan}
use Rattle.site.specs.Reach.{is_open, net_by}
use Rattle.theory.specs.Plan.{is_plan}

-- plantest::is_plan
pub plantest_is_plan-one : (table : List ℕ) (cells : ℕ) (slots : ℕ) (channels : ℕ) (loads : List ℕ) (clash : List ℕ) (blocked : List ℕ)
    → (r : Bool) × (PlantestIsPlan table cells slots channels loads clash blocked r)
    × ((q : Bool) → PlantestIsPlan table cells slots channels loads clash blocked q → (q ≡ r))
plantest_is_plan-one table cells slots channels loads clash blocked = (
  is_plan (net_by cells (slots * channels) loads clash (is_open blocked)) table,
  record { answer = refl },
  λ q says. says.answer,
)
