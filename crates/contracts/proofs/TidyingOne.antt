-- For any arguments one answer and one content of what is lent meet the contract, and no other, in crate `tidying`: by its equalities alone.
-- Made by tools/surface from the source. Assumes nothing.
use Rattle.std.specs.Prelude.{List, Result, refl, ℕ, ◌≡◌}
use Rattle.cleaning.specs.Clean.{changes_of}
use Rattle.cleaning.specs.declared.Tidied.{Tidied}
use Rattle.contracts.specs.TidyingSays.{ChangesMade, Tidy}
use Rattle.tidying.specs.Tidy.{tidy_answer, tidy_out}
use Rattle.tidying.specs.declared.TidyError.{TidyError}

-- tidying::tidy
pub tidy-one : (sheet : List ℕ) (out : List ℕ)
    → (r : Result ℕ TidyError) × (out' : List ℕ) × (Tidy sheet out r out')
    × ((q : Result ℕ TidyError) (out'' : List ℕ) → Tidy sheet out q out'' → (q ≡ r) × (out'' ≡ out'))
tidy-one sheet out = (
  tidy_answer sheet out,
  tidy_out sheet out,
  record { answer = refl; out_after = refl },
  λ q out'' says. (says.answer, says.out_after),
)

-- tidying::changes_made
pub changes_made-one : (sheet : List ℕ) (kind : ℕ)
    → (r : Tidied) × (ChangesMade sheet kind r)
    × ((q : Tidied) → ChangesMade sheet kind q → (q ≡ r))
changes_made-one sheet kind = (
  changes_of sheet kind,
  record { answer = refl },
  λ q says. says.answer,
)
