-- For any arguments one answer and one content of what is lent meet the contract, and no other, in crate `say_listing`: by its equalities alone.
-- Made by tools/surface from the source. Assumes nothing.
use Rattle.std.specs.Prelude.{List, length, refl, ℕ, ◌+◌, ◌≡◌}
use Rattle.contracts.specs.SayListingSays.{SayListingPutCellLine, SayListingPutLine}
use Rattle.phrases.specs.Phrases.{phrase}
use Rattle.phrases.specs.declared.Phrase.{Phrase}
use Rattle.say_listing.specs.Lines.{cell_listed, listing_lines}
use Rattle.std.proofs.lemmas.List.Edits.{sets}

-- say_listing::put_line
pub say_listing_put_line-one : (out : List ℕ) (at : ℕ) (what : Phrase)
    → (r : ℕ) × (out' : List ℕ) × (SayListingPutLine out at what r out')
    × ((q : ℕ) (out'' : List ℕ) → SayListingPutLine out at what q out'' → (q ≡ r) × (out'' ≡ out'))
say_listing_put_line-one out at what = (
  at + length (phrase listing_lines what),
  sets out at (phrase listing_lines what),
  record { answer = refl; out_after = refl },
  λ q out'' says. (says.answer, says.out_after),
)

-- say_listing::put_cell_line
pub say_listing_put_cell_line-one : (out : List ℕ) (cell : ℕ) (channels : ℕ) (row : List ℕ)
    → (r : ℕ) × (out' : List ℕ) × (SayListingPutCellLine out cell channels row r out')
    × ((q : ℕ) (out'' : List ℕ) → SayListingPutCellLine out cell channels row q out'' → (q ≡ r) × (out'' ≡ out'))
say_listing_put_cell_line-one out cell channels row = (
  0 + length (cell_listed cell channels row),
  sets out 0 (cell_listed cell channels row),
  record { answer = refl; out_after = refl },
  λ q out'' says. (says.answer, says.out_after),
)
