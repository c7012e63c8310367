-- What a writer of text promises, said once.
use Rattle.std.specs.Prelude.{ℕ, ◌+◌, ◌*◌, ◌≤◌, ◌≡◌, List, length}
use Rattle.std.proofs.lemmas.List.Edits.{sets}
use Rattle.speech.specs.Speech.{mark_said, spoken}
use Rattle.phrases.specs.Phrases.{row_in}

-- the text stands at `at` of the buffer, and nothing else is changed; `next` is the place after it; and it takes at most so much room
pub record Put (before : List ℕ) (at : ℕ) (text : List ℕ) (room : ℕ) (after : List ℕ) (next : ℕ) : Type 0 where
  pub stored : after ≡ sets before at text
  pub follows : next ≡ at + length text
  pub short : length text ≤ room

-- a row of a table's byte string is put, with its values
abbrev pub PutRow : (before : List ℕ) (at : ℕ) (table : List ℕ) (row a b c d : ℕ) (after : List ℕ) (next : ℕ) → Type 0
PutRow before at table row a b c d after next =
    Put before at (spoken (mark_said a b c d) (row_in table row)) (10 * length (row_in table row)) after next
