-- The equalities that the contracts of crate `say_changes` state: r is the answer, and x' what a lent x holds afterwards.
-- Made by tools/surface from the source.
use Rattle.std.specs.Prelude.{List, length, ℕ, ◌+◌, ◌≡◌}
use Rattle.say_changes.specs.Said.{slot_said}
use Rattle.std.proofs.lemmas.List.Edits.{sets}

-- say_changes::put_changes
pub record SayChangesPutChanges (out : List ℕ) (at : ℕ) (old : List ℕ) (new : List ℕ) (from : ℕ) (channels : ℕ) (cell : ℕ) (slot : ℕ) (r : ℕ)
    (out' : List ℕ) : Type 0 where
  pub answer : r ≡ at + length (slot_said old new from cell slot channels)
  pub out_after : out' ≡ sets out at (slot_said old new from cell slot channels)
