-- The equalities that the contracts of crate `calltext` state: r is the answer, and x' what a lent x holds afterwards.
-- Made by tools/surface from the source.
use Rattle.std.specs.Prelude.{List, Result, ℕ, ◌≡◌}
use Rattle.records.specs.Write.{laid_over, written}
use Rattle.records.specs.declared.WriteError.{WriteError}
use Rattle.say_answers.specs.Said.{call_said}

-- calltext::call_text
pub record CallText (call : ℕ) (number : ℕ) (a : ℕ) (b : ℕ) (c : ℕ) (out : List ℕ) (r : Result ℕ WriteError) (out' : List ℕ) : Type 0 where
  pub answer : r ≡ written (call_said call number a b c) out
  pub out_after : out' ≡ laid_over (call_said call number a b c) out
