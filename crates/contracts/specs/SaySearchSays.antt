-- The equalities that the contracts of crate `say_search` state: r is the answer, and x' what a lent x holds afterwards.
-- Made by tools/surface from the source.
use Rattle.std.specs.Prelude.{List, Result, length, ℕ, ◌+◌, ◌≡◌}
use Rattle.phrases.specs.declared.Phrase.{Phrase}
use Rattle.say_search.specs.Said.{on_said, search_said, tries_phrase}
use Rattle.search.specs.declared.SearchError.{SearchError}
use Rattle.std.proofs.lemmas.List.Edits.{sets}

-- say_search::tries_phrase
pub record SaySearchTriesPhrase (row : ℕ) (tries : ℕ) (r : Phrase) : Type 0 where
  pub answer : r ≡ tries_phrase row tries

-- say_search::put_search
pub record SaySearchPutSearch (out : List ℕ) (at : ℕ) (reply : Result ℕ SearchError) (r : ℕ) (out' : List ℕ) : Type 0 where
  pub answer : r ≡ at + length (search_said reply)
  pub out_after : out' ≡ sets out at (search_said reply)

-- say_search::put_on
pub record SaySearchPutOn (out : List ℕ) (at : ℕ) (tries : ℕ) (r : ℕ) (out' : List ℕ) : Type 0 where
  pub answer : r ≡ at + length (on_said tries)
  pub out_after : out' ≡ sets out at (on_said tries)
