-- For any arguments one answer and one content of what is lent meet the contract, and no other, in crate `putblocks`: by its equalities alone.
-- Made by tools/surface from the source. Assumes nothing.
use Rattle.std.specs.Prelude.{List, length, refl, ℕ, ◌+◌, ◌≡◌}
use Rattle.contracts.specs.PutblocksSays.{PutblocksPutBlocked}
use Rattle.putblocks.specs.Canon.{blocked_text}
use Rattle.std.proofs.lemmas.List.Edits.{sets}

-- putblocks::put_blocked
pub putblocks_put_blocked-one : (out : List ℕ) (at : ℕ) (set : List ℕ) (slots : ℕ) (channels : ℕ)
    → (r : ℕ) × (out' : List ℕ) × (PutblocksPutBlocked out at set slots channels r out')
    × ((q : ℕ) (out'' : List ℕ) → PutblocksPutBlocked out at set slots channels q out'' → (q ≡ r) × (out'' ≡ out'))
putblocks_put_blocked-one out at set slots channels = (
  at + length (blocked_text set slots channels),
  sets out at (blocked_text set slots channels),
  record { answer = refl; out_after = refl },
  λ q out'' says. (says.answer, says.out_after),
)
