-- For any arguments one answer and one content of what is lent meet the contract, and no other, in crate `text`: by its equalities alone.
-- Made by tools/surface from the source. Assumes nothing.
use Rattle.std.specs.Prelude.{List, length, refl, ℕ, ◌+◌, ◌≡◌}
use Rattle.contracts.specs.TextSays.{TextPutFew, TextPutNumber, TextPutText}
use Rattle.std.proofs.lemmas.List.Edits.{sets}
use Rattle.text.specs.Decimal.{decimal}

-- text::put_text
pub text_put_text-one : (out : List ℕ) (at : ℕ) (text : List ℕ)
    → (r : ℕ) × (out' : List ℕ) × (TextPutText out at text r out')
    × ((q : ℕ) (out'' : List ℕ) → TextPutText out at text q out'' → (q ≡ r) × (out'' ≡ out'))
text_put_text-one out at text = (
  at + length text,
  sets out at text,
  record { answer = refl; out_after = refl },
  λ q out'' says. (says.answer, says.out_after),
)

-- text::put_few
pub text_put_few-one : (out : List ℕ) (at : ℕ) (x : ℕ)
    → (r : ℕ) × (out' : List ℕ) × (TextPutFew out at x r out')
    × ((q : ℕ) (out'' : List ℕ) → TextPutFew out at x q out'' → (q ≡ r) × (out'' ≡ out'))
text_put_few-one out at x = (
  at + length (decimal x),
  sets out at (decimal x),
  record { answer = refl; out_after = refl },
  λ q out'' says. (says.answer, says.out_after),
)

-- text::put_number
pub text_put_number-one : (out : List ℕ) (at : ℕ) (x : ℕ)
    → (r : ℕ) × (out' : List ℕ) × (TextPutNumber out at x r out')
    × ((q : ℕ) (out'' : List ℕ) → TextPutNumber out at x q out'' → (q ≡ r) × (out'' ≡ out'))
text_put_number-one out at x = (
  at + length (decimal x),
  sets out at (decimal x),
  record { answer = refl; out_after = refl },
  λ q out'' says. (says.answer, says.out_after),
)
