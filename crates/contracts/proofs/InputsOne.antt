-- For any arguments one answer and one content of what is lent meet the contract, and no other, in crate `inputs`: by its equalities alone.
-- Made by tools/surface from the source. Assumes nothing.
use Rattle.std.specs.Prelude.{List, length, refl, ℕ, ◌+◌, ◌≡◌}
use Rattle.contracts.specs.InputsSays.{InputsInputOf, InputsPutFile}
use Rattle.inputs.specs.Files.{input_of}
use Rattle.inputs.specs.Said.{file_said}
use Rattle.inputs.specs.declared.Input.{Input}
use Rattle.std.proofs.lemmas.List.Edits.{sets}

-- inputs::input_of
pub inputs_input_of-one : (s : List ℕ)
    → (r : Input) × (InputsInputOf s r)
    × ((q : Input) → InputsInputOf s q → (q ≡ r))
inputs_input_of-one s = (
  input_of s,
  record { answer = refl },
  λ q says. says.answer,
)

-- inputs::put_file
pub inputs_put_file-one : (out : List ℕ) (at : ℕ) (found : Input) (asked : Input)
    → (r : ℕ) × (out' : List ℕ) × (InputsPutFile out at found asked r out')
    × ((q : ℕ) (out'' : List ℕ) → InputsPutFile out at found asked q out'' → (q ≡ r) × (out'' ≡ out'))
inputs_put_file-one out at found asked = (
  at + length (file_said found asked),
  sets out at (file_said found asked),
  record { answer = refl; out_after = refl },
  λ q out'' says. (says.answer, says.out_after),
)
