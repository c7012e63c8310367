-- Where each set is one word, the word of a cell's turn is its set: position k of cell i is bit k of word i. Assumes nothing.
use mathlib.Core.Path.{◌≡◌, sym, ap, ap₂, ◌∙◌}
use mathlib.Core.Bool.{Bool, ◌&&◌, not}
use mathlib.Core.List.{List}
use Prim.Native.Nat.{ℕ, ◌+◌, ◌-◌, ◌*◌, ◌<◌}
use native.Mathlib.Nat.{mul-one}
use native.Mathlib.Omega.{arith}
use lib.ListN.{get_or, set}
use lib.Seq.{sets}
use Rattle.laws.specs.Bits.{bit_at, bit_in, word_of}
use Rattle.laws.specs.Part.{list_of}
use Rattle.laws.specs.Sum.{any, count}
use Rattle.laws.proofs.Any.{any-eq}
use Rattle.laws.proofs.Words.{word-bit, word-eq}
use Rattle.positions.proofs.Counts.{blocked-at}
use Rattle.mending.specs.Keep.{stand_at}
use Rattle.mending.specs.Changes.{differ}
use Rattle.sets.specs.Sets.{in_set, set_in}
use Rattle.standing.specs.Sets.{stands_in, free_by, short_count, turn_count}
use Rattle.standing.proofs.Within.{set_both, short-both, count-both}

-- position k of the set of cell i
own-bit : (l : List ℕ) (i k : ℕ) → k < 64 → bit_in l i k ≡ stands_in 1 l i k
own-bit l i k h = sym (ap (λ (j : ℕ). in_set l (64 * j + k)) (mul-one i) ∙ blocked-at l i k h)

first_bit : (l : List ℕ) (k : ℕ) → k < 64 → bit_at (get_or l 0 0) k ≡ in_set l k
first_bit l k h = let e : 64 * 0 + k ≡ k = omega arith in sym (ap (in_set l) (sym e) ∙ blocked-at l 0 k h)

-- one word stored
store-one : (p : ℕ → Bool) (l : List ℕ) (i : ℕ) → set l i (word_of p 64) ≡ sets l (i * 1) (set_in p 1)
unfolding list_of
store-one p l i =
    ap (λ (j : ℕ). set l j (word_of p 64)) (sym (mul-one i))
    ∙ ap (set l (i * 1)) (word-eq p (λ b. p (64 * 0 + b)) 64 (λ k h. let e : k ≡ 64 * 0 + k = omega arith in ap p e))

module _ (stands vacant old : List ℕ) (i load row : ℕ) {free : ℕ}
    (is : free ≡ word_of (λ k. bit_at (get_or vacant 0 0) k && not (any (λ a. bit_at row a && bit_in stands a k) i)) 64) where
  abbrev free' : ℕ → Bool
  free' = free_by (in_set vacant) 1 row stands i

  abbrev was : ℕ → Bool
  was = stands_in 1 old i

  same : (k : ℕ) → k < 64 * 1 → bit_at free k ≡ free' k
  same k h =
      ap (λ (x : ℕ). bit_at x k) is ∙ word-bit (λ j. bit_at (get_or vacant 0 0) j && not (any (λ a. bit_at row a && bit_in stands a j) i)) 64 k (omega arith)
      ∙ ap₂ (λ s t. s && not t) (first_bit vacant k (omega arith))
      (any-eq (λ a. bit_at row a && bit_in stands a k) (λ a. bit_at row a && stands_in 1 stands a k) i
      (λ a l. ap (λ b. bit_at row a && b) (own-bit stands a k (omega arith))))

  stood : (k : ℕ) → k < 64 * 1 → bit_at (get_or old i 0) k ≡ was k
  stood k h = own-bit old i k (omega arith)

  one-stands : set stands i (word_of (stand_at (bit_at free) (bit_at (get_or old i 0)) load 64) 64)
      ≡ sets stands (i * 1) (set_in (stand_at (free_by (in_set vacant) 1 row stands i) (stands_in 1 old i) load (64 * 1)) 1)
  one-stands =
      store-one (stand_at (bit_at free) (bit_at (get_or old i 0)) load 64) stands i
      ∙ ap (sets stands (i * 1)) (set_both free' (bit_at free) was (bit_at (get_or old i 0)) load 1 same stood)

  -- the same where w is 1
  module _ (w : ℕ) (one : w ≡ 1) where
    pub word_stands : set stands i (word_of (stand_at (bit_at free) (bit_at (get_or old i 0)) load 64) 64)
        ≡ sets stands (i * w) (set_in (stand_at (free_by (in_set vacant) w row stands i) (stands_in w old i) load (64 * w)) w)
    word_stands =
        one-stands
        ∙ ap (λ (v : ℕ). sets stands (i * v) (set_in (stand_at (free_by (in_set vacant) v row stands i) (stands_in v old i) load (64 * v)) v)) (sym one)

    pub word-short : load - count (stand_at (bit_at free) (bit_at (get_or old i 0)) load 64) 64
        ≡ short_count (free_by (in_set vacant) w row stands i) (stands_in w old i) load (64 * w)
    word-short =
        short-both free' (bit_at free) was (bit_at (get_or old i 0)) load 1 same stood
        ∙ ap (λ (v : ℕ). short_count (free_by (in_set vacant) v row stands i) (stands_in v old i) load (64 * v)) (sym one)

    pub word-changes : count (λ k. differ (stand_at (bit_at free) (bit_at (get_or old i 0)) load 64 k) (bit_at (get_or old i 0) k)) 64
        ≡ turn_count (free_by (in_set vacant) w row stands i) (stands_in w old i) load (64 * w)
    word-changes =
        count-both free' (bit_at free) was (bit_at (get_or old i 0)) load 1 same stood
        ∙ ap (λ (v : ℕ). turn_count (free_by (in_set vacant) v row stands i) (stands_in v old i) load (64 * v)) (sym one)
