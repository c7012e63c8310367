-- For any arguments one answer and one content of what is lent meet the contract, and no other, in crate `listtext`: by its equalities alone.
-- Made by tools/surface from the source. Assumes nothing.
use Rattle.std.specs.Prelude.{List, Result, refl, ℕ, ◌≡◌}
use Rattle.contracts.specs.ListtextSays.{ListText}
use Rattle.listhead.specs.Listing.{listing}
use Rattle.records.specs.Write.{laid_over, written}
use Rattle.records.specs.declared.WriteError.{WriteError}

-- listtext::list_text
pub list_text-one : (bytes : List ℕ) (out : List ℕ)
    → (r : Result ℕ WriteError) × (out' : List ℕ) × (ListText bytes out r out')
    × ((q : Result ℕ WriteError) (out'' : List ℕ) → ListText bytes out q out'' → (q ≡ r) × (out'' ≡ out'))
list_text-one bytes out = (
  written (listing bytes) out,
  laid_over (listing bytes) out,
  record { answer = refl; out_after = refl },
  λ q out'' says. (says.answer, says.out_after),
)
