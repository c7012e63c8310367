-- For any arguments one answer and one content of what is lent meet the contract, and no other, in crate `replan`: by its equalities alone.
-- Made by tools/surface from the source. Assumes nothing.
use Rattle.std.specs.Prelude.{List, Result, refl, ℕ, ◌*◌, ◌≡◌}
use Rattle.contracts.specs.ReplanSays.{ReplanPlanFrom}
use Rattle.planner.specs.Plan.{answer_of, leaves}
use Rattle.planner.specs.declared.PlanError.{PlanError}
use Rattle.site.specs.Reach.{is_open, net_by}
use Rattle.theory.specs.Greedy.{greedy}

-- replan::plan_from
pub replan_plan_from-one : (table : List ℕ) (first : ℕ) (cells : ℕ) (slots : ℕ) (channels : ℕ) (loads : List ℕ) (clash : List ℕ) (blocked : List ℕ)
    → (r : Result Unit PlanError) × (table' : List ℕ) × (ReplanPlanFrom table first cells slots channels loads clash blocked r table')
    × ((q : Result Unit PlanError) (table'' : List ℕ) → ReplanPlanFrom table first cells slots channels loads clash blocked q table''
    → (q ≡ r) × (table'' ≡ table'))
replan_plan_from-one table first cells slots channels loads clash blocked = (
  answer_of (greedy (net_by cells (slots * channels) loads clash (is_open blocked))),
  leaves (net_by cells (slots * channels) loads clash (is_open blocked)) table,
  record { answer = refl; table_after = refl },
  λ q table'' says. (says.answer, says.table_after),
)
