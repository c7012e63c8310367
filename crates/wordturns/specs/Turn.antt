-- A cell's turn over 64 positions, by the words of what is free and what stood.
use Rattle.std.specs.Prelude.{ℕ, ◌-◌}
use Rattle.laws.specs.Bits.{bit_at, word_of}
use Rattle.laws.specs.Sum.{count}
use Rattle.mending.specs.Keep.{stand_at}
use Rattle.mending.specs.Changes.{differ}

-- the word of what stands; how much of the load does not; and how many positions change
abbrev pub word_here : ℕ → ℕ → ℕ → ℕ
word_here free old load = word_of (stand_at (bit_at free) (bit_at old) load 64) 64

abbrev pub word_short : ℕ → ℕ → ℕ → ℕ
word_short free old load = load - count (stand_at (bit_at free) (bit_at old) load 64) 64

abbrev pub word_moves : ℕ → ℕ → ℕ → ℕ
word_moves free old load = count (λ k. differ (stand_at (bit_at free) (bit_at old) load 64 k) (bit_at old k)) 64
