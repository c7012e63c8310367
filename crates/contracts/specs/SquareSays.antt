-- The equalities that the contracts of crate `square` state: r is the answer, and x' what a lent x holds afterwards.
-- Made by tools/surface from the source.
use Rattle.std.specs.Prelude.{List, ℕ, ◌*◌, ◌+◌, ◌-◌, ◌^◌, ◌≡◌}
use Rattle.laws.specs.Bits.{bit_at, word_of}
use Rattle.square.specs.Turned.{turned, turned_fours}

-- square::turned
pub record SquareTurned (rows : List ℕ) (r : List ℕ) : Type 0 where
  pub answer : r ≡ turned rows

-- square::turned_fours
pub record SquareTurnedFours (rows : List ℕ) (r : List ℕ) : Type 0 where
  pub answer : r ≡ turned_fours rows

-- square::row_in
pub record SquareRowIn (word : ℕ) (i : ℕ) (r : ℕ) : Type 0 where
  pub answer : r ≡ word_of (λ b. bit_at word (16 * i + b)) 16

-- square::low_bits
pub record SquareLowBits (n : ℕ) (r : ℕ) : Type 0 where
  pub answer : r ≡ 2 ^ n - 1
