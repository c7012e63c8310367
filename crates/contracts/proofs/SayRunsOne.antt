-- For any arguments one answer and one content of what is lent meet the contract, and no other, in crate `say_runs`: by its equalities alone.
-- Made by tools/surface from the source. Assumes nothing.
use Rattle.std.specs.Prelude.{Bool, List, length, refl, ℕ, ◌+◌, ◌≡◌}
use Rattle.contracts.specs.SayRunsSays.{SayRunsPutRuns, SayRunsSomeRun}
use Rattle.say_runs.specs.Runs.{run_before}
use Rattle.say_runs.specs.Said.{runs_said}
use Rattle.std.proofs.lemmas.List.Edits.{sets}

-- say_runs::some_run
pub say_runs_some_run-one : (row : List ℕ)
    → (r : Bool) × (SayRunsSomeRun row r)
    × ((q : Bool) → SayRunsSomeRun row q → (q ≡ r))
say_runs_some_run-one row = (
  run_before row (length row),
  record { answer = refl },
  λ q says. says.answer,
)

-- say_runs::put_runs
pub say_runs_put_runs-one : (out : List ℕ) (at : ℕ) (channels : ℕ) (row : List ℕ)
    → (r : ℕ) × (out' : List ℕ) × (SayRunsPutRuns out at channels row r out')
    × ((q : ℕ) (out'' : List ℕ) → SayRunsPutRuns out at channels row q out'' → (q ≡ r) × (out'' ≡ out'))
say_runs_put_runs-one out at channels row = (
  at + length (runs_said channels row),
  sets out at (runs_said channels row),
  record { answer = refl; out_after = refl },
  λ q out'' says. (says.answer, says.out_after),
)
