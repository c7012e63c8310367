-- The cells of a row from a cell on, as a word and in blocks: a walk over a word joins its cells' blocks, one after the other. Assumes nothing.
use mathlib.Core.Path.{◌≡◌, sym, ap, ap₂, ◌∙◌}
use mathlib.Core.Bool.{Bool, true, false, ◌&&◌, ◌||◌, not, true≢false, not-not, and_comm}
use mathlib.Core.List.{List}
use Prim.Native.Nat.{ℕ, ◌+◌, ◌-◌, ◌*◌, ◌%◌, ◌^◌, ◌≤◌, ◌<◌}
use native.Mathlib.Omega.{arith}
use lib.Bits.{bit_and, bit_or}
use lib.Count.{count_trailing_zeros}
use lib.Dec.{leb}
use lib.ListN.{get_or}
use Rattle.laws.specs.Bits.{bit_at, word_of}
use Rattle.laws.specs.Sum.{any}
use Rattle.laws.proofs.Any.{any-eq, any-more, any-skip, any_some}
use Rattle.laws.proofs.Bits.{one_shl}
use Rattle.laws.proofs.Choice.{refute, both, both_is, less-not}
use Rattle.laws.proofs.Lowest.{bit-all}
use Rattle.laws.proofs.Upward.{from_on, walk-done, walk_from, walk_here, walk-passed}
use Rattle.laws.proofs.Words.{word-bit, word-eq}
use Rattle.blocks.specs.Order.{placed, meeting}
use Rattle.blocks.proofs.Places.{placed-none, placed-either, placed-both, meet-not}
use Rattle.clashblocks.specs.Above.{cell_placed, above_has}

-- ---- a walk over a word

module _ (lows highs : List ℕ) (word j rest : ℕ) (is-left : rest ≡ word_of (from_on (bit_at word) j) 32) where
  -- the cells that have been joined
  abbrev has : ℕ → ℕ → Bool
  has k c = bit_at word c && cell_placed lows highs k c

  module _ (low high : ℕ) (joined : (k : ℕ) → placed low high k ≡ any (λ c. bit_at word c && cell_placed lows highs k c) j) where
    -- one cell more
    pub unite-more : (rest ≡ 0 → ⊥) → (k : ℕ)
        → placed (bit_or low (get_or lows (count_trailing_zeros 32 rest) 0)) (bit_or high (get_or highs (count_trailing_zeros 32 rest) 0)) k
        ≡ any (λ c. bit_at word c && cell_placed lows highs k c) (count_trailing_zeros 32 rest + 1)
    unite-more some k =
        let c : ℕ = count_trailing_zeros 32 rest in
        let upto : any (has k) c ≡ any (has k) j =
        any-skip (has k) j c (walk_from (bit_at word) 32 j rest is-left some (omega arith)) (λ d l h.
        ap (λ t. t && cell_placed lows highs k d) (walk-passed (bit_at word) 32 j rest is-left some (omega arith) d l h)) in
        let here : has k c ≡ cell_placed lows highs k c =
        ap (λ t. t && cell_placed lows highs k c) (walk_here (bit_at word) 32 j rest is-left some (omega arith)) in
        placed-either low high (get_or lows c 0) (get_or highs c 0) k
        ∙ ap₂ ◌||◌ (joined k ∙ sym upto) (sym here)
        ∙ sym (any-more (has k) c)

    -- all cells of the word
    pub unite-all : j ≤ 32 → rest ≡ 0 → (k : ℕ) → placed low high k ≡ any (λ c. bit_at word c && cell_placed lows highs k c) 32
    unite-all few done k =
        joined k ∙ sym (any-skip (has k) j 32 few (λ d l h. ap (λ t. t && cell_placed lows highs k d) (walk-done (bit_at word) 32 j rest is-left done d l h)))

-- no cell yet
pub unite-none : (lows highs : List ℕ) (word k : ℕ) → placed 0 0 k ≡ any (λ c. bit_at word c && cell_placed lows highs k c) 0
unfolding any
unite-none lows highs word k = placed-none k

-- ---- the cells of a row from i on

pub upward-is : (row i : ℕ) → i < 32 → word_of (λ b. bit_at row b && not (bit_at (1 * 2 ^ i % 4294967296 - 1) b)) 32 ≡ word_of (λ c. leb i c && bit_at row c) 32
upward-is row i h =
    word-eq (λ b. bit_at row b && not (bit_at (1 * 2 ^ i % 4294967296 - 1) b)) (λ c. leb i c && bit_at row c) 32 (λ b l.
    ap (λ t. bit_at row b && not t)
    (ap (λ (z : ℕ). bit_at (z - 1) b) (one_shl i h) ∙ bit-all i b ∙ less-not b i)
    ∙ ap (λ t. bit_at row b && t) (not-not (leb i b))
    ∙ and_comm (bit_at row b) (leb i b))

module _ (lows highs : List ℕ) (low high row i x y : ℕ) where
  -- what they have of a block, by their word
  pub above-met : (w u v : ℕ) → w ≡ word_of (λ c. leb i c && bit_at row c) 32
      → ((k : ℕ) → placed u v k ≡ any (λ c. bit_at w c && cell_placed lows highs k c) 32)
      → (k : ℕ) → placed (bit_and u x) (bit_and v y) k ≡ (above_has lows highs row i k && placed x y k)
  above-met w u v e joined k =
      placed-both u v x y k
      ∙ ap (λ t. t && placed x y k)
      (joined k
      ∙ any-eq (λ c. bit_at w c && cell_placed lows highs k c) (λ c. (leb i c && bit_at row c) && cell_placed lows highs k c) 32 (λ c l.
      ap (λ t. t && cell_placed lows highs k c) (ap (λ (z : ℕ). bit_at z c) e ∙ word-bit (λ d. leb i d && bit_at row d) 32 c l)))

  -- nothing, where the block does not meet what all cells have
  pub above-missed : ((c k : ℕ) → cell_placed lows highs k c ≡ true → placed low high k ≡ true) → meeting low high x y ≡ false
      → (k : ℕ) → placed 0 0 k ≡ (above_has lows highs row i k && placed x y k)
  above-missed has none k =
      placed-none k ∙ sym (refute (above_has lows highs row i k && placed x y k) (λ e.
      let p = both (above_has lows highs row i k) (placed x y k) e in
      let s = any_some (λ c. (leb i c && bit_at row c) && cell_placed lows highs k c) 32 p.0 in
      let q = both (leb i s.0 && bit_at row s.0) (cell_placed lows highs k s.0) s.2 in
      true≢false (sym (both_is (placed low high k) (placed x y k) (has s.0 k q.1) p.1) ∙ meet-not low high x y k none)))
