-- The equalities that the contracts of crate `replan` state: r is the answer, and x' what a lent x holds afterwards.
-- Made by tools/surface from the source.
use Rattle.std.specs.Prelude.{List, Result, ℕ, ◌*◌, ◌≡◌}
use Rattle.planner.specs.Plan.{answer_of, leaves}
use Rattle.planner.specs.declared.PlanError.{PlanError}
use Rattle.site.specs.Reach.{is_open, net_by}
use Rattle.theory.specs.Greedy.{greedy}

-- replan::plan_from
pub record ReplanPlanFrom (table : List ℕ) (first : ℕ) (cells : ℕ) (slots : ℕ) (channels : ℕ) (loads : List ℕ) (clash : List ℕ) (blocked : List ℕ)
    (r : Result Unit PlanError) (table' : List ℕ) : Type 0 where
  pub answer : r ≡ answer_of (greedy (net_by cells (slots * channels) loads clash (is_open blocked)))
  pub table_after : table' ≡ leaves (net_by cells (slots * channels) loads clash (is_open blocked)) table
