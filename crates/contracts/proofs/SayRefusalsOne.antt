-- For any arguments one answer and one content of what is lent meet the contract, and no other, in crate `say_refusals`: by its equalities alone.
-- Made by tools/surface from the source. Assumes nothing.
use Rattle.std.specs.Prelude.{List, Option, length, refl, ℕ, ◌+◌, ◌≡◌}
use Rattle.contracts.specs.SayRefusalsSays.{SayRefusalsPutRefused, SayRefusalsPutSentence}
use Rattle.say_refusals.specs.Said.{refused_line}
use Rattle.say_refusals.specs.Sentences.{sentence_in}
use Rattle.say_refusals.specs.declared.Place.{Place}
use Rattle.say_refusals.specs.declared.Sentence.{Sentence}
use Rattle.std.proofs.lemmas.List.Edits.{sets}

-- say_refusals::put_refused
pub say_refusals_put_refused-one : (out : List ℕ) (at : ℕ) (number : ℕ) (place : Option Place)
    → (r : ℕ) × (out' : List ℕ) × (SayRefusalsPutRefused out at number place r out')
    × ((q : ℕ) (out'' : List ℕ) → SayRefusalsPutRefused out at number place q out'' → (q ≡ r) × (out'' ≡ out'))
say_refusals_put_refused-one out at number place = (
  at + length (refused_line number place),
  sets out at (refused_line number place),
  record { answer = refl; out_after = refl },
  λ q out'' says. (says.answer, says.out_after),
)

-- say_refusals::put_sentence
pub say_refusals_put_sentence-one : (out : List ℕ) (at : ℕ) (table : List ℕ) (sentence : Sentence)
    → (r : ℕ) × (out' : List ℕ) × (SayRefusalsPutSentence out at table sentence r out')
    × ((q : ℕ) (out'' : List ℕ) → SayRefusalsPutSentence out at table sentence q out'' → (q ≡ r) × (out'' ≡ out'))
say_refusals_put_sentence-one out at table sentence = (
  at + length (sentence_in table sentence),
  sets out at (sentence_in table sentence),
  record { answer = refl; out_after = refl },
  λ q out'' says. (says.answer, says.out_after),
)
