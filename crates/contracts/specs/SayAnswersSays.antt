-- The equalities that the contracts of crate `say_answers` state: r is the answer, and x' what a lent x holds afterwards.
-- Made by tools/surface from the source.
use Rattle.std.specs.Prelude.{List, length, ℕ, ◌+◌, ◌≡◌}
use Rattle.say_answers.specs.Said.{call_said}
use Rattle.std.proofs.lemmas.List.Edits.{sets}

-- say_answers::put_call
pub record SayAnswersPutCall (out : List ℕ) (at : ℕ) (call : ℕ) (number : ℕ) (a : ℕ) (b : ℕ) (c : ℕ) (r : ℕ) (out' : List ℕ) : Type 0 where
  pub answer : r ≡ at + length (call_said call number a b c)
  pub out_after : out' ≡ sets out at (call_said call number a b c)
