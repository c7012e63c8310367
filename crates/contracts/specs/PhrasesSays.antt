-- The equalities that the contracts of crate `phrases` state: r is the answer, and x' what a lent x holds afterwards.
-- Made by tools/surface from the source.
use Rattle.std.specs.Prelude.{List, [], length, ℕ, ◌+◌, ◌∷◌, ◌≡◌}
use Rattle.phrases.specs.Phrases.{phrase_in}
use Rattle.phrases.specs.declared.Phrase.{Phrase}
use Rattle.std.proofs.lemmas.List.Edits.{sets}

-- phrases::put_phrase
pub record PhrasesPutPhrase (out : List ℕ) (at : ℕ) (table : List ℕ) (phrase : Phrase) (r : ℕ) (out' : List ℕ) : Type 0 where
  pub answer : r ≡ at + length (phrase_in table phrase)
  pub out_after : out' ≡ sets out at (phrase_in table phrase)

-- phrases::put_byte
pub record PhrasesPutByte (out : List ℕ) (at : ℕ) (byte : ℕ) (r : ℕ) (out' : List ℕ) : Type 0 where
  pub answer : r ≡ at + length (byte ∷ [])
  pub out_after : out' ≡ sets out at (byte ∷ [])
