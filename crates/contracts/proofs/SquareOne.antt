-- For any arguments one answer and one content of what is lent meet the contract, and no other, in crate `square`: by its equalities alone.
-- Made by tools/surface from the source. Assumes nothing.
use Rattle.std.specs.Prelude.{List, refl, ℕ, ◌*◌, ◌+◌, ◌-◌, ◌^◌, ◌≡◌}
use Rattle.contracts.specs.SquareSays.{SquareLowBits, SquareRowIn, SquareTurned, SquareTurnedFours}
use Rattle.laws.specs.Bits.{bit_at, word_of}
use Rattle.square.specs.Turned.{turned, turned_fours}

-- square::turned
pub square_turned-one : (rows : List ℕ)
    → (r : List ℕ) × (SquareTurned rows r)
    × ((q : List ℕ) → SquareTurned rows q → (q ≡ r))
square_turned-one rows = (
  turned rows,
  record { answer = refl },
  λ q says. says.answer,
)

-- square::turned_fours
pub square_turned_fours-one : (rows : List ℕ)
    → (r : List ℕ) × (SquareTurnedFours rows r)
    × ((q : List ℕ) → SquareTurnedFours rows q → (q ≡ r))
square_turned_fours-one rows = (
  turned_fours rows,
  record { answer = refl },
  λ q says. says.answer,
)

-- square::row_in
pub square_row_in-one : (word : ℕ) (i : ℕ)
    → (r : ℕ) × (SquareRowIn word i r)
    × ((q : ℕ) → SquareRowIn word i q → (q ≡ r))
square_row_in-one word i = (
  word_of (λ b. bit_at word (16 * i + b)) 16,
  record { answer = refl },
  λ q says. says.answer,
)

-- square::low_bits
pub square_low_bits-one : (n : ℕ)
    → (r : ℕ) × (SquareLowBits n r)
    × ((q : ℕ) → SquareLowBits n q → (q ≡ r))
square_low_bits-one n = (
  2 ^ n - 1,
  record { answer = refl },
  λ q says. says.answer,
)
