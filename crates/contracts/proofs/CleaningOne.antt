-- For any arguments one answer and one content of what is lent meet the contract, and no other, in crate `cleaning`: by its equalities alone.
-- Made by tools/surface from the source. Assumes nothing.
use Rattle.std.specs.Prelude.{List, length, refl, take, ℕ, ◌≡◌}
use Rattle.cleaning.specs.Clean.{changes_of, cleaned}
use Rattle.cleaning.specs.declared.Tidied.{Tidied}
use Rattle.contracts.specs.CleaningSays.{CleaningChangedIn, CleaningClean}
use Rattle.std.proofs.lemmas.List.Edits.{sets}

-- cleaning::clean
pub cleaning_clean-one : (s : List ℕ) (out : List ℕ)
    → (r : ℕ) × (out' : List ℕ) × (CleaningClean s out r out')
    × ((q : ℕ) (out'' : List ℕ) → CleaningClean s out q out'' → (q ≡ r) × (out'' ≡ out'))
cleaning_clean-one s out = (
  length (take (length out) (cleaned s)),
  sets out 0 (take (length out) (cleaned s)),
  record { answer = refl; out_after = refl },
  λ q out'' says. (says.answer, says.out_after),
)

-- cleaning::changed_in
pub cleaning_changed_in-one : (s : List ℕ) (kind : ℕ)
    → (r : Tidied) × (CleaningChangedIn s kind r)
    × ((q : Tidied) → CleaningChangedIn s kind q → (q ≡ r))
cleaning_changed_in-one s kind = (
  changes_of s kind,
  record { answer = refl },
  λ q says. says.answer,
)
