-- A set of positions as 32 words of 64 bits. Positions, words and bits are counted from 0.
use Rattle.std.specs.Prelude.{Bool, not, List, ℕ, ◌+◌, ◌*◌, ◌/◌, ◌%◌, replicate}
use Rattle.laws.specs.Bits.{bit_in, word_of}
use Rattle.laws.specs.Choice.{pick}
use Rattle.laws.specs.Part.{list_of}
use Rattle.laws.specs.Search.{first}
use Rattle.laws.specs.Sum.{count, any}

-- "N = F times T, at most 2,048"
abbrev pub most_positions : ℕ
most_positions = 2048

-- "position k is bit k % 64 of word k / 64"
abbrev pub blocked_at : List ℕ → ℕ → Bool
blocked_at words k = bit_in words (k / 64) (k % 64)

-- how many of the first n positions are not in the set: "the count of open positions"
abbrev pub open_in : List ℕ → ℕ → ℕ
open_in words n = count (λ k. not (blocked_at words k)) n

-- the lowest position of the set at or past n; 2,048 where it has none, and n where that is more
abbrev pub first_past : List ℕ → ℕ → ℕ
first_past words n = first (blocked_at words) n most_positions

-- whether one of the first n positions is in the set
abbrev pub any_in : List ℕ → ℕ → Bool
any_in words n = any (blocked_at words) n

-- the byte that bars position k, where it is in the set: neither idle nor any byte of a table
abbrev pub bar_of : List ℕ → ℕ → ℕ
bar_of words k = pick (blocked_at words k) 4 0

-- nothing is in the set
abbrev pub empty_set : List ℕ
empty_set = replicate 32 0

-- word j of the set of the positions that pass a test
abbrev pub word_in : (ℕ → Bool) → ℕ → ℕ
word_in p j = word_of (λ b. p (64 * j + b)) 64

-- the set of the positions that pass a test
abbrev pub set_of : (ℕ → Bool) → List ℕ
set_of p = list_of (word_in p) 32
