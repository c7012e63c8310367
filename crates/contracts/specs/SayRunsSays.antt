-- The equalities that the contracts of crate `say_runs` state: r is the answer, and x' what a lent x holds afterwards.
-- Made by tools/surface from the source.
use Rattle.std.specs.Prelude.{Bool, List, length, ℕ, ◌+◌, ◌≡◌}
use Rattle.say_runs.specs.Runs.{run_before}
use Rattle.say_runs.specs.Said.{runs_said}
use Rattle.std.proofs.lemmas.List.Edits.{sets}

-- say_runs::some_run
pub record SayRunsSomeRun (row : List ℕ) (r : Bool) : Type 0 where
  pub answer : r ≡ run_before row (length row)

-- say_runs::put_runs
pub record SayRunsPutRuns (out : List ℕ) (at : ℕ) (channels : ℕ) (row : List ℕ) (r : ℕ) (out' : List ℕ) : Type 0 where
  pub answer : r ≡ at + length (runs_said channels row)
  pub out_after : out' ≡ sets out at (runs_said channels row)
