-- The equalities that the contracts of crate `say_edits` state: r is the answer, and x' what a lent x holds afterwards.
-- Made by tools/surface from the source.
use Rattle.std.specs.Prelude.{List, length, ℕ, ◌+◌, ◌≡◌}
use Rattle.say_edits.specs.Said.{part_said}
use Rattle.say_edits.specs.declared.Part.{Part}
use Rattle.std.proofs.lemmas.List.Edits.{sets}

-- say_edits::put_part
pub record SayEditsPutPart (out : List ℕ) (at : ℕ) (part : Part) (r : ℕ) (out' : List ℕ) : Type 0 where
  pub answer : r ≡ at + length (part_said part)
  pub out_after : out' ≡ sets out at (part_said part)
