-- For any arguments one answer and one content of what is lent meet the contract, and no other, in crate `escaping`: by its equalities alone.
-- Made by tools/surface from the source. Assumes nothing.
use Rattle.std.specs.Prelude.{List, length, refl, ℕ, ◌+◌, ◌≡◌}
use Rattle.contracts.specs.EscapingSays.{EscapingPutEscaped, EscapingWholePart}
use Rattle.escaping.specs.Escaped.{escaped}
use Rattle.escaping.specs.Pieces.{whole_part}
use Rattle.std.proofs.lemmas.List.Edits.{sets}

-- escaping::put_escaped
pub escaping_put_escaped-one : (out : List ℕ) (at : ℕ) (text : List ℕ)
    → (r : ℕ) × (out' : List ℕ) × (EscapingPutEscaped out at text r out')
    × ((q : ℕ) (out'' : List ℕ) → EscapingPutEscaped out at text q out'' → (q ≡ r) × (out'' ≡ out'))
escaping_put_escaped-one out at text = (
  at + length (escaped text),
  sets out at (escaped text),
  record { answer = refl; out_after = refl },
  λ q out'' says. (says.answer, says.out_after),
)

-- escaping::whole_part
pub escaping_whole_part-one : (text : List ℕ)
    → (r : ℕ) × (EscapingWholePart text r)
    × ((q : ℕ) → EscapingWholePart text q → (q ≡ r))
escaping_whole_part-one text = (
  whole_part text,
  record { answer = refl },
  λ q says. says.answer,
)
