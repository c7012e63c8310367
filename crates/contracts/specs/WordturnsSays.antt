-- The equalities that the contracts of crate `wordturns` state: r is the answer, and x' what a lent x holds afterwards.
-- Made by tools/surface from the source.
use Rattle.std.specs.Prelude.{List, not, ℕ, ◌&&◌, ◌≡◌}
use Rattle.laws.specs.Bits.{bit_at, bit_in, word_of}
use Rattle.laws.specs.Sum.{any}
use Rattle.wordturns.specs.Turn.{word_here, word_moves, word_short}
use Rattle.wordturns.specs.declared.WordTurn.{WordTurn}

-- wordturns::free_word
pub record WordturnsFreeWord (vacant : ℕ) (stands : List ℕ) (row : ℕ) (i : ℕ) (r : ℕ) : Type 0 where
  pub answer : r ≡ word_of (λ k. bit_at vacant k && not (any (λ a. bit_at row a && bit_in stands a k) i)) 64

-- wordturns::word_turn
pub record WordturnsWordTurn (free : ℕ) (old : ℕ) (load : ℕ) (r : WordTurn) : Type 0 where
  pub answer : r ≡ record { here = word_here free old load; short = word_short free old load; changes = word_moves free old load }
