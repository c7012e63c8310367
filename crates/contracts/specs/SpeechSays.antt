-- The equalities that the contracts of crate `speech` state: r is the answer, and x' what a lent x holds afterwards.
-- Made by tools/surface from the source.
use Rattle.std.specs.Prelude.{List, length, ℕ, ◌+◌, ◌≡◌}
use Rattle.speech.specs.Speech.{mark_said, spoken}
use Rattle.std.proofs.lemmas.List.Edits.{sets}

-- speech::say
pub record SpeechSay (out : List ℕ) (at : ℕ) (text : List ℕ) (a : ℕ) (b : ℕ) (c : ℕ) (d : ℕ) (r : ℕ) (out' : List ℕ) : Type 0 where
  pub answer : r ≡ at + length (spoken (mark_said a b c d) text)
  pub out_after : out' ≡ sets out at (spoken (mark_said a b c d) text)
