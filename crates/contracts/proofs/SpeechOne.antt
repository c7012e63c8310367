-- For any arguments one answer and one content of what is lent meet the contract, and no other, in crate `speech`: by its equalities alone.
-- Made by tools/surface from the source. Assumes nothing.
use Rattle.std.specs.Prelude.{List, length, refl, ℕ, ◌+◌, ◌≡◌}
use Rattle.contracts.specs.SpeechSays.{SpeechSay}
use Rattle.speech.specs.Speech.{mark_said, spoken}
use Rattle.std.proofs.lemmas.List.Edits.{sets}

-- speech::say
pub speech_say-one : (out : List ℕ) (at : ℕ) (text : List ℕ) (a : ℕ) (b : ℕ) (c : ℕ) (d : ℕ)
    → (r : ℕ) × (out' : List ℕ) × (SpeechSay out at text a b c d r out')
    × ((q : ℕ) (out'' : List ℕ) → SpeechSay out at text a b c d q out'' → (q ≡ r) × (out'' ≡ out'))
speech_say-one out at text a b c d = (
  at + length (spoken (mark_said a b c d) text),
  sets out at (spoken (mark_said a b c d) text),
  record { answer = refl; out_after = refl },
  λ q out'' says. (says.answer, says.out_after),
)
