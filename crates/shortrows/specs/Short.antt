-- A row of at most 64 positions, of which words say what is free: its marks, its bytes once free positions are reserved, and the words of the rows before it.
use Rattle.std.specs.Prelude.{ℕ, ◌*◌, ◌≤◌, ◌<◌, ◌≡◌, Bool, true, ◌&&◌, List, length, get_or}
use Rattle.laws.specs.Bits.{bit_at, bit_in, word_of}
use Rattle.laws.specs.Choice.{pick}
use Rattle.laws.specs.Sum.{bit, any}
use Rattle.theory.specs.Greedy.{reserved}

-- the mark of position p: 2 where the word has it
abbrev pub mark_in : ℕ → ℕ → ℕ
mark_in taken p = 2 * bit (bit_at taken p)

-- the byte of position p of a row, once a free position is reserved
abbrev pub took_at : ℕ → List ℕ → ℕ → ℕ
took_at free r p = pick (bit_at free p) 1 (get_or r p 0)

-- each free position of a row, from m on, is idle
abbrev pub Vacant : ℕ → ℕ → List ℕ → Type 0
Vacant free m r = (p : ℕ) → m ≤ p → p < length r → bit_at free p ≡ true → get_or r p 0 ≡ 0

-- whether one of the first i words has position p, of those that `near` names
abbrev pub any_held : List ℕ → ℕ → ℕ → ℕ → Bool
any_held held near i p = any (λ m. bit_at near m && bit_in held m p) i

-- held has, for each of the first i rows of t, the word of the positions that it reserves
abbrev pub WordsHeld : ℕ → List ℕ → ℕ → List ℕ → Type 0
WordsHeld n t i held = (j : ℕ) → j < i → get_or held j 0 ≡ word_of (reserved n t j) n
