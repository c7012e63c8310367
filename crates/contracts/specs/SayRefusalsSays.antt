-- The equalities that the contracts of crate `say_refusals` state: r is the answer, and x' what a lent x holds afterwards.
-- Made by tools/surface from the source.
use Rattle.std.specs.Prelude.{List, Option, length, ℕ, ◌+◌, ◌≡◌}
use Rattle.say_refusals.specs.Said.{refused_line}
use Rattle.say_refusals.specs.Sentences.{sentence_in}
use Rattle.say_refusals.specs.declared.Place.{Place}
use Rattle.say_refusals.specs.declared.Sentence.{Sentence}
use Rattle.std.proofs.lemmas.List.Edits.{sets}

-- say_refusals::put_refused
pub record SayRefusalsPutRefused (out : List ℕ) (at : ℕ) (number : ℕ) (place : Option Place) (r : ℕ) (out' : List ℕ) : Type 0 where
  pub answer : r ≡ at + length (refused_line number place)
  pub out_after : out' ≡ sets out at (refused_line number place)

-- say_refusals::put_sentence
pub record SayRefusalsPutSentence (out : List ℕ) (at : ℕ) (table : List ℕ) (sentence : Sentence) (r : ℕ) (out' : List ℕ) : Type 0 where
  pub answer : r ≡ at + length (sentence_in table sentence)
  pub out_after : out' ≡ sets out at (sentence_in table sentence)
