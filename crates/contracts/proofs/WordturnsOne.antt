-- For any arguments one answer and one content of what is lent meet the contract, and no other, in crate `wordturns`: by its equalities alone.
-- Made by tools/surface from the source. Assumes nothing.
use Rattle.std.specs.Prelude.{List, not, refl, ℕ, ◌&&◌, ◌≡◌}
use Rattle.contracts.specs.WordturnsSays.{WordturnsFreeWord, WordturnsWordTurn}
use Rattle.laws.specs.Bits.{bit_at, bit_in, word_of}
use Rattle.laws.specs.Sum.{any}
use Rattle.wordturns.specs.Turn.{word_here, word_moves, word_short}
use Rattle.wordturns.specs.declared.WordTurn.{WordTurn}

-- wordturns::free_word
pub wordturns_free_word-one : (vacant : ℕ) (stands : List ℕ) (row : ℕ) (i : ℕ)
    → (r : ℕ) × (WordturnsFreeWord vacant stands row i r)
    × ((q : ℕ) → WordturnsFreeWord vacant stands row i q → (q ≡ r))
wordturns_free_word-one vacant stands row i = (
  word_of (λ k. bit_at vacant k && not (any (λ a. bit_at row a && bit_in stands a k) i)) 64,
  record { answer = refl },
  λ q says. says.answer,
)

-- wordturns::word_turn
pub wordturns_word_turn-one : (free : ℕ) (old : ℕ) (load : ℕ)
    → (r : WordTurn) × (WordturnsWordTurn free old load r)
    × ((q : WordTurn) → WordturnsWordTurn free old load q → (q ≡ r))
wordturns_word_turn-one free old load = (
  record { here = word_here free old load; short = word_short free old load; changes = word_moves free old load },
  record { answer = refl },
  λ q says. says.answer,
)
