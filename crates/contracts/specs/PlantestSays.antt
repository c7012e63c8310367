-- The equalities that the contracts of crate `plantest` state: r is the answer, and x' what a lent x holds afterwards.
-- Made by tools/surface from the source.
use Rattle.std.specs.Prelude.{Bool, List, ℕ, ◌*◌, ◌≡◌}
use Rattle.site.specs.Reach.{is_open, net_by}
use Rattle.theory.specs.Plan.{is_plan}

-- plantest::is_plan
pub record PlantestIsPlan (table : List ℕ) (cells : ℕ) (slots : ℕ) (channels : ℕ) (loads : List ℕ) (clash : List ℕ) (blocked : List ℕ) (r : Bool) : Type 0 where
  pub answer : r ≡ is_plan (net_by cells (slots * channels) loads clash (is_open blocked)) table
