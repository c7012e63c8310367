-- For any arguments one answer and one content of what is lent meet the contract, and no other, in crate `say_picture`: by its equalities alone.
-- Made by tools/surface from the source. Assumes nothing.
use Rattle.std.specs.Prelude.{List, length, refl, ℕ, ◌+◌, ◌≡◌}
use Rattle.contracts.specs.SayPictureSays.{SayPicturePutFacts, SayPicturePutPictureHead, SayPicturePutPictureTail}
use Rattle.drawing.specs.Picture.{fact_lines, facts_phrase, head_said, tail_said}
use Rattle.phrases.specs.Phrases.{phrase}
use Rattle.site.specs.declared.Site.{Site}
use Rattle.std.proofs.lemmas.List.Edits.{sets}

-- say_picture::put_picture_head
pub say_picture_put_picture_head-one : (out : List ℕ) (at : ℕ) (site : Site)
    → (r : ℕ) × (out' : List ℕ) × (SayPicturePutPictureHead out at site r out')
    × ((q : ℕ) (out'' : List ℕ) → SayPicturePutPictureHead out at site q out'' → (q ≡ r) × (out'' ≡ out'))
say_picture_put_picture_head-one out at site = (
  at + length (head_said site 47),
  sets out at (head_said site 47),
  record { answer = refl; out_after = refl },
  λ q out'' says. (says.answer, says.out_after),
)

-- say_picture::put_facts
pub say_picture_put_facts-one : (out : List ℕ) (at : ℕ) (site : Site) (free : ℕ)
    → (r : ℕ) × (out' : List ℕ) × (SayPicturePutFacts out at site free r out')
    × ((q : ℕ) (out'' : List ℕ) → SayPicturePutFacts out at site free q out'' → (q ≡ r) × (out'' ≡ out'))
say_picture_put_facts-one out at site free = (
  at + length (phrase fact_lines (facts_phrase site)),
  sets out at (phrase fact_lines (facts_phrase site)),
  record { answer = refl; out_after = refl },
  λ q out'' says. (says.answer, says.out_after),
)

-- say_picture::put_picture_tail
pub say_picture_put_picture_tail-one : (out : List ℕ) (at : ℕ) (site : Site)
    → (r : ℕ) × (out' : List ℕ) × (SayPicturePutPictureTail out at site r out')
    × ((q : ℕ) (out'' : List ℕ) → SayPicturePutPictureTail out at site q out'' → (q ≡ r) × (out'' ≡ out'))
say_picture_put_picture_tail-one out at site = (
  at + length (tail_said site 11),
  sets out at (tail_said site 11),
  record { answer = refl; out_after = refl },
  λ q out'' says. (says.answer, says.out_after),
)
