-- The clashes at a position are those of its word: the word has a cell's bit exactly where the cell is reserved.
-- For a problem whose clash relation the rows state.
-- Assumes nothing.
use mathlib.Core.Path.{◌≡◌, sym, ap, ap₂}
use mathlib.Core.Bool.{Bool, ◌&&◌}
use mathlib.Core.List.{List}
use Prim.Native.Nat.{ℕ, ◌+◌, ◌<◌, zero-le}
use native.Mathlib.Omega.{arith}
use lib.Dec.{ltb}
use Rattle.laws.specs.Bits.{bit_at, bit_in}
use Rattle.laws.proofs.Search.{first-same}
use Rattle.laws.proofs.Words.{word-bit}
use Rattle.theory.specs.Net.{Net, Reserved}
use Rattle.theory.specs.Verdict.{second_at, clashes_at, first_at}
use Rattle.words.specs.Words.{word_at}
use Rattle.words.specs.Clashes.{second_in, clashes_in, first_in}

module _ (s : Net) (rows : List ℕ) (states : s.clash ≡ bit_in rows) (res : Reserved) (k : ℕ) where
  pub second_word : (a : ℕ) → a < s.cells → second_in (word_at s.cells res k) rows s.cells a ≡ second_at s res k a
  unfolding second_in second_at
  second_word a h =
      first-same (λ c. bit_in rows a c && bit_at (word_at s.cells res k) c) (λ c. s.clash a c && res c k) (a + 1) s.cells (omega arith) (λ c l b.
      ap₂ ◌&&◌ (ap (λ (f : ℕ → ℕ → Bool). f a c) (sym states)) (word-bit (λ i. res i k) s.cells c b))

  clashes-word : (a : ℕ) → a < s.cells → clashes_in (word_at s.cells res k) rows s.cells a ≡ clashes_at s res k a
  unfolding clashes_in clashes_at
  clashes-word a h = ap₂ (λ t c. t && ltb c s.cells) (word-bit (λ i. res i k) s.cells a h) (second_word a h)

  pub first_word : first_in (word_at s.cells res k) rows s.cells ≡ first_at s res k
  unfolding first_in first_at
  first_word = first-same (clashes_in (word_at s.cells res k) rows s.cells) (clashes_at s res k) 0 s.cells zero-le (λ a _ h. clashes-word a h)
