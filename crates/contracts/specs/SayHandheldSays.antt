-- The equalities that the contracts of crate `say_handheld` state: r is the answer, and x' what a lent x holds afterwards.
-- Made by tools/surface from the source.
use Rattle.std.specs.Prelude.{List, Result, length, ℕ, ◌+◌, ◌≡◌}
use Rattle.handheld.specs.declared.ChangeError.{ChangeError}
use Rattle.say_handheld.specs.Said.{change_said}
use Rattle.std.proofs.lemmas.List.Edits.{sets}

-- say_handheld::put_change
pub record SayHandheldPutChange (out : List ℕ) (at : ℕ) (cell : ℕ) (load : ℕ) (reply : Result Unit ChangeError) (r : ℕ) (out' : List ℕ) : Type 0 where
  pub answer : r ≡ at + length (change_said cell load reply)
  pub out_after : out' ≡ sets out at (change_said cell load reply)
