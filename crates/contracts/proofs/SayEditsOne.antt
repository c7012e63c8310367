-- For any arguments one answer and one content of what is lent meet the contract, and no other, in crate `say_edits`: by its equalities alone.
-- Made by tools/surface from the source. Assumes nothing.
use Rattle.std.specs.Prelude.{List, length, refl, ℕ, ◌+◌, ◌≡◌}
use Rattle.contracts.specs.SayEditsSays.{SayEditsPutPart}
use Rattle.say_edits.specs.Said.{part_said}
use Rattle.say_edits.specs.declared.Part.{Part}
use Rattle.std.proofs.lemmas.List.Edits.{sets}

-- say_edits::put_part
pub say_edits_put_part-one : (out : List ℕ) (at : ℕ) (part : Part)
    → (r : ℕ) × (out' : List ℕ) × (SayEditsPutPart out at part r out')
    × ((q : ℕ) (out'' : List ℕ) → SayEditsPutPart out at part q out'' → (q ≡ r) × (out'' ≡ out'))
say_edits_put_part-one out at part = (
  at + length (part_said part),
  sets out at (part_said part),
  record { answer = refl; out_after = refl },
  λ q out'' says. (says.answer, says.out_after),
)
