-- For any arguments one answer and one content of what is lent meet the contract, and no other, in crate `say_answers`: by its equalities alone.
-- Made by tools/surface from the source. Assumes nothing.
use Rattle.std.specs.Prelude.{List, length, refl, ℕ, ◌+◌, ◌≡◌}
use Rattle.contracts.specs.SayAnswersSays.{SayAnswersPutCall}
use Rattle.say_answers.specs.Said.{call_said}
use Rattle.std.proofs.lemmas.List.Edits.{sets}

-- say_answers::put_call
pub say_answers_put_call-one : (out : List ℕ) (at : ℕ) (call : ℕ) (number : ℕ) (a : ℕ) (b : ℕ) (c : ℕ)
    → (r : ℕ) × (out' : List ℕ) × (SayAnswersPutCall out at call number a b c r out')
    × ((q : ℕ) (out'' : List ℕ) → SayAnswersPutCall out at call number a b c q out'' → (q ≡ r) × (out'' ≡ out'))
say_answers_put_call-one out at call number a b c = (
  at + length (call_said call number a b c),
  sets out at (call_said call number a b c),
  record { answer = refl; out_after = refl },
  λ q out'' says. (says.answer, says.out_after),
)
