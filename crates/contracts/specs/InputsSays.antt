-- The equalities that the contracts of crate `inputs` state: r is the answer, and x' what a lent x holds afterwards.
-- Made by tools/surface from the source.
use Rattle.std.specs.Prelude.{List, length, ℕ, ◌+◌, ◌≡◌}
use Rattle.inputs.specs.Files.{input_of}
use Rattle.inputs.specs.Said.{file_said}
use Rattle.inputs.specs.declared.Input.{Input}
use Rattle.std.proofs.lemmas.List.Edits.{sets}

-- inputs::input_of
pub record InputsInputOf (s : List ℕ) (r : Input) : Type 0 where
  pub answer : r ≡ input_of s

-- inputs::put_file
pub record InputsPutFile (out : List ℕ) (at : ℕ) (found : Input) (asked : Input) (r : ℕ) (out' : List ℕ) : Type 0 where
  pub answer : r ≡ at + length (file_said found asked)
  pub out_after : out' ≡ sets out at (file_said found asked)
