-- The cells joined to a block from the highest down. Where the cells from i on have been joined, the positions that were met are those at which one of them
-- clashes with a cell above it. Assumes nothing.
use mathlib.Core.Path.{◌≡◌, sym, ap, ap₂, ◌∙◌}
use mathlib.Core.Bool.{Bool, true, false, ◌&&◌, ◌||◌, true≢false, or-true, or-false, and_comm, and-false}
use mathlib.Core.List.{List, []}
use mathlib.Core.Logic.{◌⊎◌, inl, inr, ⊎_elim}
use Prim.Native.Nat.{ℕ, ◌+◌, ◌*◌, ◌≤◌, ◌<◌}
use native.Mathlib.Nat.{add_assoc, le_refl, eq-or-lt_of_le}
use native.Mathlib.Omega.{arith}
use lib.Bits.{bit_or}
use lib.Dec.{ltb, leb}
use lib.ListN.{length, get_or, set, replicate}
use lib.Seq.{get_or-set_same, get_or-set_other}
use borrow.Author.Tests.{lt-ltb, le-ltb, le-leb, ltb-true, ltb-false}
use Rattle.laws.specs.Bits.{bit_in, word_of}
use Rattle.laws.specs.Search.{first}
use Rattle.laws.proofs.Any.{any-first, any-skip}
use Rattle.laws.proofs.Choice.{cases, both, both_is, order, either_is}
use Rattle.laws.proofs.Search.{first-hit, first-miss, first-end}
use Rattle.laws.proofs.Stores.{zeros-at}
use Rattle.theory.specs.Net.{Net, unblocked}
use Rattle.theory.specs.Greedy.{sends, reserved}
use Rattle.theory.specs.Verdict.{second_at, clashes_at, first_at}
use Rattle.site.specs.Reach.{net_in}
use Rattle.blocks.specs.Order.{low_sends, high_sends, placed}
use Rattle.blocks.proofs.Places.{placed-is, placed-none, placed-either}
use Rattle.clashblocks.specs.Above.{cell_placed, above_has, clash_here}

-- one number more at the start of a search
search-more : (p : ℕ → Bool) (i n : ℕ) → i < n → (ltb (first p (i + 1) n) n || p i) ≡ ltb (first p i n) n
search-more p i n h =
    ⊎_elim
    (λ e. ap (λ t. ltb (first p (i + 1) n) n || t) e ∙ or-true (ltb (first p (i + 1) n) n) ∙ sym (ap (λ (k : ℕ). ltb k n) (first-hit p i n h e) ∙ lt-ltb i n h))
    (λ e. ap (λ t. ltb (first p (i + 1) n) n || t) e ∙ or-false (ltb (first p (i + 1) n) n) ∙ sym (ap (λ (k : ℕ). ltb k n) (first-miss p i n h e)))
    (cases (p i))

module _ (cells n : ℕ) (rows t : List ℕ) (from : ℕ) where
  abbrev problem : Net
  problem = net_in cells n [] (bit_in rows) unblocked

  -- the cells from i on have been joined: their blocks, what all of them have, and the positions that were met
  pub record Joined (i : ℕ) (lows highs : List ℕ) (low high met-low met-high : ℕ) : Type 0 where
    pub inside : (c : ℕ) → i ≤ c → c < cells → (k : ℕ) → k < 128 → cell_placed lows highs k c ≡ reserved n t c (from + k)
    pub below : (c : ℕ) → c < i → (k : ℕ) → cell_placed lows highs k c ≡ false
    pub past : (c : ℕ) → cells ≤ c → (k : ℕ) → cell_placed lows highs k c ≡ false
    pub has : (c k : ℕ) → cell_placed lows highs k c ≡ true → placed low high k ≡ true
    pub met : (k : ℕ) → k < 128
        → placed met-low met-high k ≡ ltb (first (clashes_at (net_in cells n [] (bit_in rows) unblocked) (reserved n t) (from + k)) i cells) cells

  -- an array of zeros has no block
  none-at : (k c : ℕ) → cell_placed (replicate 32 0) (replicate 32 0) k c ≡ false
  none-at k c = ap₂ (λ (a b : ℕ). placed a b k) (zeros-at 32 c) (zeros-at 32 c) ∙ placed-none k

  pub none-joined : Joined cells (replicate 32 0) (replicate 32 0) 0 0 0 0
  none-joined = record {
    inside = λ c l h. absurd (omega arith);
    below = λ c l k. none-at k c;
    past = λ c l k. none-at k c;
    has = λ c k e. absurd (true≢false (sym e ∙ none-at k c));
    met = λ k h. placed-none k ∙ sym (ap (λ (i : ℕ). ltb i cells) (first-end (clashes_at problem (reserved n t) (from + k)) cells cells (le_refl cells))
        ∙ le-ltb cells cells (le_refl cells));
  }

  module _ (i : ℕ) (lows highs : List ℕ) (low high met-low met-high : ℕ) (done : Joined (i + 1) lows highs low high met-low met-high)
      (few : cells ≤ 32) (in_cells : i < cells) (x y m-low m-high : ℕ)
      (x-is : x ≡ word_of (low_sends t (i * n + from)) 64) (y-is : y ≡ word_of (high_sends t (i * n + from)) 64)
      (meets : (k : ℕ) → placed m-low m-high k ≡ (above_has lows highs (get_or rows i 0) i k && placed x y k)) where
    -- cell i's block
    own : (k : ℕ) → k < 128 → placed x y k ≡ reserved n t i (from + k)
    own k h =
        ap₂ (λ (a b : ℕ). placed a b k) x-is y-is
        ∙ placed-is (λ j. sends (get_or t (i * n + from + j) 0)) k h
        ∙ ap (λ (j : ℕ). sends (get_or t j 0)) (add_assoc (i * n) from k)

    -- a cell above it in its row is reserved there
    second : (k : ℕ) → k < 128 → above_has lows highs (get_or rows i 0) i k ≡ ltb (second_at problem (reserved n t) (from + k) i) cells
    unfolding second_at
    second k h =
        any-skip here cells 32 few (λ c l _. ap (λ b. (leb i c && bit_in rows i c) && b) (done.past c l k) ∙ and-false (leb i c && bit_in rows i c))
        ∙ any-first here (λ c. bit_in rows i c && reserved n t c (from + k)) (i + 1) cells (omega arith)
        (λ c l e.
        let p = both (leb i c && bit_in rows i c) (cell_placed lows highs k c) e in
        let q = both (leb i c) (bit_in rows i c) p.0 in
        let above : i + 1 ≤ c = later c p.1 in
        (above, both_is (bit_in rows i c) (reserved n t c (from + k)) q.1 (sym (done.inside c above l k h) ∙ p.1)))
        (λ c l b e.
        let p = both (bit_in rows i c) (reserved n t c (from + k)) e in
        both_is (leb i c && bit_in rows i c) (cell_placed lows highs k c) (both_is (leb i c) (bit_in rows i c) (le-leb i c (omega arith)) p.0)
        (done.inside c l b k h ∙ p.1))
      where
        here : ℕ → Bool
        here c = (leb i c && bit_in rows i c) && cell_placed lows highs k c

        later : (c : ℕ) → cell_placed lows highs k c ≡ true → i + 1 ≤ c
        later c e = ⊎_elim (λ (l : ltb c (i + 1) ≡ true). absurd (true≢false (sym e ∙ done.below c (ltb-true c (i + 1) l) k)))
            (λ (l : ltb c (i + 1) ≡ false). ltb-false c (i + 1) l) (cases (ltb c (i + 1)))

    met-here : (k : ℕ) → k < 128 → placed m-low m-high k ≡ clashes_at problem (reserved n t) (from + k) i
    unfolding clashes_at
    met-here k h = meets k ∙ ap₂ ◌&&◌ (second k h) (own k h) ∙ and_comm (ltb (second_at problem (reserved n t) (from + k) i) cells) (reserved n t i (from + k))

    module _ (long : i < length lows) (long' : i < length highs) where
      at_own : (k : ℕ) → cell_placed (set lows i x) (set highs i y) k i ≡ placed x y k
      at_own k = ap₂ (λ (a b : ℕ). placed a b k) (get_or-set_same lows i x 0 long) (get_or-set_same highs i y 0 long')

      at_other : (c k : ℕ) → (c ≡ i → ⊥) → cell_placed (set lows i x) (set highs i y) k c ≡ cell_placed lows highs k c
      at_other c k apart = ap₂ (λ (a b : ℕ). placed a b k) (get_or-set_other lows i c x 0 apart) (get_or-set_other highs i c y 0 apart)

      pub more-joined : Joined i (set lows i x) (set highs i y) (bit_or low x) (bit_or high y) (bit_or met-low m-low) (bit_or met-high m-high)
      more-joined = record {
        inside = λ c l h k g.
            ⊎_elim
            (λ (e : i ≡ c). ap (cell_placed (set lows i x) (set highs i y) k) (sym e) ∙ at_own k ∙ own k g ∙ ap (λ (d : ℕ). reserved n t d (from + k)) e)
            (λ b. at_other c k (λ e. omega arith) ∙ done.inside c (omega arith) h k g)
            (eq-or-lt_of_le l);
        below = λ c l k. at_other c k (λ e. omega arith) ∙ done.below c (omega arith) k;
        past = λ c l k. at_other c k (λ e. omega arith) ∙ done.past c l k;
        has = λ c k e. placed-either low high x y k ∙ either c k e (order i c);
        met = λ k h.
            placed-either met-low met-high m-low m-high k
            ∙ ap₂ ◌||◌ (done.met k h) (met-here k h)
            ∙ search-more (clashes_at problem (reserved n t) (from + k)) i cells in_cells;
      }
        where
          either : (c k : ℕ) → cell_placed (set lows i x) (set highs i y) k c ≡ true → (i < c) ⊎ ((i ≡ c) ⊎ (c < i)) → (placed low high k || placed x y k)
              ≡ true
          either c k e (inl b) = ap (λ t. t || placed x y k) (done.has c k (sym (at_other c k (λ d. omega arith)) ∙ e))
          either c k e (inr (inl d)) =
              either_is (placed low high k) (placed x y k) (inr (sym (at_own k) ∙ ap (cell_placed (set lows i x) (set highs i y) k) d ∙ e))
          either c k e (inr (inr b)) = ap (λ t. t || placed x y k) (done.has c k (sym (at_other c k (λ d. omega arith)) ∙ e))

-- all cells have been joined
pub all-joined : (cells n : ℕ) (rows t : List ℕ) (from : ℕ) (lows highs : List ℕ) (low high met-low met-high : ℕ)
    → Joined cells n rows t from 0 lows highs low high met-low met-high
    → (k : ℕ) → k < 128 → placed met-low met-high k ≡ clash_here cells n rows t (from + k)
unfolding first_at
all-joined cells n rows t from lows highs low high met-low met-high done k h = done.met k h
