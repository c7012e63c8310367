-- The equalities that the contracts of crate `standing` state: r is the answer, and x' what a lent x holds afterwards.
-- Made by tools/surface from the source.
use Rattle.std.specs.Prelude.{List, Result, ℕ, ◌≡◌}
use Rattle.standing.specs.Stand.{stood_by}
use Rattle.standing.specs.Turns.{packed_rows, turned_by}
use Rattle.standing.specs.declared.Short.{Short}

-- standing::stand_all
pub record StandingStandAll (stands : List ℕ) (old : List ℕ) (table : List ℕ) (w : ℕ) (n : ℕ) (cells : ℕ) (loads : List ℕ) (clash : List ℕ)
    (blocked : List ℕ) (r : Result ℕ Short) (stands' : List ℕ) (old' : List ℕ) : Type 0 where
  pub answer : r ≡ stood_by cells n loads clash blocked table
  pub stands_after : stands' ≡ turned_by w cells n loads clash blocked table stands
  pub old_after : old' ≡ packed_rows w n table old cells
