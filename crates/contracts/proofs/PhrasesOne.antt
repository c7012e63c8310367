-- For any arguments one answer and one content of what is lent meet the contract, and no other, in crate `phrases`: by its equalities alone.
-- Made by tools/surface from the source. Assumes nothing.
use Rattle.std.specs.Prelude.{List, [], length, refl, ℕ, ◌+◌, ◌∷◌, ◌≡◌}
use Rattle.contracts.specs.PhrasesSays.{PhrasesPutByte, PhrasesPutPhrase}
use Rattle.phrases.specs.Phrases.{phrase_in}
use Rattle.phrases.specs.declared.Phrase.{Phrase}
use Rattle.std.proofs.lemmas.List.Edits.{sets}

-- phrases::put_phrase
pub phrases_put_phrase-one : (out : List ℕ) (at : ℕ) (table : List ℕ) (phrase : Phrase)
    → (r : ℕ) × (out' : List ℕ) × (PhrasesPutPhrase out at table phrase r out')
    × ((q : ℕ) (out'' : List ℕ) → PhrasesPutPhrase out at table phrase q out'' → (q ≡ r) × (out'' ≡ out'))
phrases_put_phrase-one out at table phrase = (
  at + length (phrase_in table phrase),
  sets out at (phrase_in table phrase),
  record { answer = refl; out_after = refl },
  λ q out'' says. (says.answer, says.out_after),
)

-- phrases::put_byte
pub phrases_put_byte-one : (out : List ℕ) (at : ℕ) (byte : ℕ)
    → (r : ℕ) × (out' : List ℕ) × (PhrasesPutByte out at byte r out')
    × ((q : ℕ) (out'' : List ℕ) → PhrasesPutByte out at byte q out'' → (q ≡ r) × (out'' ≡ out'))
phrases_put_byte-one out at byte = (
  at + length (byte ∷ []),
  sets out at (byte ∷ []),
  record { answer = refl; out_after = refl },
  λ q out'' says. (says.answer, says.out_after),
)
