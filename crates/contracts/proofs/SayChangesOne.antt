-- For any arguments one answer and one content of what is lent meet the contract, and no other, in crate `say_changes`: by its equalities alone.
-- Made by tools/surface from the source. Assumes nothing.
use Rattle.std.specs.Prelude.{List, length, refl, ℕ, ◌+◌, ◌≡◌}
use Rattle.contracts.specs.SayChangesSays.{SayChangesPutChanges}
use Rattle.say_changes.specs.Said.{slot_said}
use Rattle.std.proofs.lemmas.List.Edits.{sets}

-- say_changes::put_changes
pub say_changes_put_changes-one : (out : List ℕ) (at : ℕ) (old : List ℕ) (new : List ℕ) (from : ℕ) (channels : ℕ) (cell : ℕ) (slot : ℕ)
    → (r : ℕ) × (out' : List ℕ) × (SayChangesPutChanges out at old new from channels cell slot r out')
    × ((q : ℕ) (out'' : List ℕ) → SayChangesPutChanges out at old new from channels cell slot q out'' → (q ≡ r) × (out'' ≡ out'))
say_changes_put_changes-one out at old new from channels cell slot = (
  at + length (slot_said old new from cell slot channels),
  sets out at (slot_said old new from cell slot channels),
  record { answer = refl; out_after = refl },
  λ q out'' says. (says.answer, says.out_after),
)
