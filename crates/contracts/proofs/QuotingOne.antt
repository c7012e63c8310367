-- For any arguments one answer and one content of what is lent meet the contract, and no other, in crate `quoting`: by its equalities alone.
-- Made by tools/surface from the source. Assumes nothing.
use Rattle.std.specs.Prelude.{List, length, refl, ℕ, ◌+◌, ◌≡◌}
use Rattle.contracts.specs.QuotingSays.{QuotingPutName}
use Rattle.quoting.specs.Names.{quoted_name}
use Rattle.std.proofs.lemmas.List.Edits.{sets}

-- quoting::put_name
pub quoting_put_name-one : (out : List ℕ) (at : ℕ) (name : List ℕ)
    → (r : ℕ) × (out' : List ℕ) × (QuotingPutName out at name r out')
    × ((q : ℕ) (out'' : List ℕ) → QuotingPutName out at name q out'' → (q ≡ r) × (out'' ≡ out'))
quoting_put_name-one out at name = (
  at + length (quoted_name name),
  sets out at (quoted_name name),
  record { answer = refl; out_after = refl },
  λ q out'' says. (says.answer, says.out_after),
)
