-- For any arguments one answer and one content of what is lent meet the contract, and no other, in crate `say_handheld`: by its equalities alone.
-- Made by tools/surface from the source. Assumes nothing.
use Rattle.std.specs.Prelude.{List, Result, length, refl, ℕ, ◌+◌, ◌≡◌}
use Rattle.contracts.specs.SayHandheldSays.{SayHandheldPutChange}
use Rattle.handheld.specs.declared.ChangeError.{ChangeError}
use Rattle.say_handheld.specs.Said.{change_said}
use Rattle.std.proofs.lemmas.List.Edits.{sets}

-- say_handheld::put_change
pub say_handheld_put_change-one : (out : List ℕ) (at : ℕ) (cell : ℕ) (load : ℕ) (reply : Result Unit ChangeError)
    → (r : ℕ) × (out' : List ℕ) × (SayHandheldPutChange out at cell load reply r out')
    × ((q : ℕ) (out'' : List ℕ) → SayHandheldPutChange out at cell load reply q out'' → (q ≡ r) × (out'' ≡ out'))
say_handheld_put_change-one out at cell load reply = (
  at + length (change_said cell load reply),
  sets out at (change_said cell load reply),
  record { answer = refl; out_after = refl },
  λ q out'' says. (says.answer, says.out_after),
)
