-- The laws of a square turned over.
-- Assumes nothing.
use mathlib.Core.Path.{◌≡◌, ap, ◌∙◌}
use mathlib.Core.List.{List}
use Prim.Native.Nat.{ℕ, ◌^◌, ◌<◌}
use lib.ListN.{length, get_or}
use Rattle.laws.specs.Bits.{bit_at, bit_in, word_of}
use Rattle.laws.proofs.Stores.{length-list, list_at}
use Rattle.laws.proofs.Words.{word-bit, word_lt}
use Rattle.square.specs.Turned.{turned}

pub turned-row : (rows : List ℕ) (a : ℕ) → a < 32 → get_or (turned rows) a 0 ≡ word_of (λ b. bit_in rows b a) 32
unfolding turned
turned-row rows a h = list_at (λ a. word_of (λ b. bit_in rows b a) 32) 32 a h

pub turned_lt : (rows : List ℕ) (a : ℕ) → a < 32 → get_or (turned rows) a 0 < 2 ^ 32
turned_lt rows a h = rw (turned-row rows a h) (word_lt (λ b. bit_in rows b a) 32)

pub turned_bit : (rows : List ℕ) (a b : ℕ) → a < 32 → b < 32 → bit_in (turned rows) a b ≡ bit_in rows b a
turned_bit rows a b h g = ap (λ (x : ℕ). bit_at x b) (turned-row rows a h) ∙ word-bit (λ b. bit_in rows b a) 32 b g

pub turned-length : (rows : List ℕ) → length (turned rows) ≡ 32
unfolding turned
turned-length rows = length-list (λ a. word_of (λ b. bit_in rows b a) 32) 32
