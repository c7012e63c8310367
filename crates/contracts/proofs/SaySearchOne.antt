-- For any arguments one answer and one content of what is lent meet the contract, and no other, in crate `say_search`: by its equalities alone.
-- Made by tools/surface from the source. Assumes nothing.
use Rattle.std.specs.Prelude.{List, Result, length, refl, ℕ, ◌+◌, ◌≡◌}
use Rattle.contracts.specs.SaySearchSays.{SaySearchPutOn, SaySearchPutSearch, SaySearchTriesPhrase}
use Rattle.phrases.specs.declared.Phrase.{Phrase}
use Rattle.say_search.specs.Said.{on_said, search_said, tries_phrase}
use Rattle.search.specs.declared.SearchError.{SearchError}
use Rattle.std.proofs.lemmas.List.Edits.{sets}

-- say_search::tries_phrase
pub say_search_tries_phrase-one : (row : ℕ) (tries : ℕ)
    → (r : Phrase) × (SaySearchTriesPhrase row tries r)
    × ((q : Phrase) → SaySearchTriesPhrase row tries q → (q ≡ r))
say_search_tries_phrase-one row tries = (
  tries_phrase row tries,
  record { answer = refl },
  λ q says. says.answer,
)

-- say_search::put_search
pub say_search_put_search-one : (out : List ℕ) (at : ℕ) (reply : Result ℕ SearchError)
    → (r : ℕ) × (out' : List ℕ) × (SaySearchPutSearch out at reply r out')
    × ((q : ℕ) (out'' : List ℕ) → SaySearchPutSearch out at reply q out'' → (q ≡ r) × (out'' ≡ out'))
say_search_put_search-one out at reply = (
  at + length (search_said reply),
  sets out at (search_said reply),
  record { answer = refl; out_after = refl },
  λ q out'' says. (says.answer, says.out_after),
)

-- say_search::put_on
pub say_search_put_on-one : (out : List ℕ) (at : ℕ) (tries : ℕ)
    → (r : ℕ) × (out' : List ℕ) × (SaySearchPutOn out at tries r out')
    × ((q : ℕ) (out'' : List ℕ) → SaySearchPutOn out at tries q out'' → (q ≡ r) × (out'' ≡ out'))
say_search_put_on-one out at tries = (
  at + length (on_said tries),
  sets out at (on_said tries),
  record { answer = refl; out_after = refl },
  λ q out'' says. (says.answer, says.out_after),
)
