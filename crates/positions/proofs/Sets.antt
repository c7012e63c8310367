-- The set of a test, and the lowest position of a set found a word at a time. Assumes nothing.
use mathlib.Core.Path.{◌≡◌, sym, ap, ◌∙◌}
use mathlib.Core.Bool.{Bool, true, false}
use mathlib.Core.List.{List}
use Prim.Native.Nat.{ℕ, ◌+◌, ◌*◌, ◌/◌, ◌%◌, ◌^◌, ◌≤◌, ◌<◌}
use native.Mathlib.Omega.{arith}
use lib.ListN.{length, get_or}
use lib.Seq.{take_all}
use Rattle.laws.specs.Bits.{bit_at}
use Rattle.laws.specs.Search.{first}
use Rattle.laws.proofs.Search.{first-skip, first-is, first-before, first_passes, first-least}
use Rattle.laws.proofs.Stores.{list_at, list-eq, list-take}
use Rattle.laws.proofs.Words.{word-bit, word-bits, word-eq}
use Rattle.positions.specs.Blocked.{most_positions, blocked_at, first_past, word_in, set_of}
use Rattle.positions.proofs.Counts.{blocked-at}

-- the set of a test has the positions that pass
pub in-set : (p : ℕ → Bool) (k : ℕ) → k < most_positions → blocked_at (set_of p) k ≡ p k
in-set p k h =
    let e : 64 * (k / 64) + k % 64 ≡ k = omega arith in
    ap (λ (x : ℕ). bit_at x (k % 64)) (list_at (word_in p) 32 (k / 64) (omega arith))
    ∙ word-bit (λ b. p (64 * (k / 64) + b)) 64 (k % 64) (omega arith)
    ∙ ap p e

-- tests that agree have one set
pub set-eq : (p q : ℕ → Bool) → ((k : ℕ) → k < most_positions → p k ≡ q k) → set_of p ≡ set_of q
set-eq p q h =
    list-eq (word_in p) (word_in q) 32 (λ j l. word-eq (λ b. p (64 * j + b)) (λ b. q (64 * j + b)) 64 (λ b m. h (64 * j + b) (omega arith)))

module _ (set : List ℕ) (k : ℕ) (inside : k < most_positions) (b : ℕ) (is : b ≡ first (bit_at (get_or set (k / 64) 0)) (k % 64) (k % 64 + 64)) where
  -- a position of k's word that comes before the bit found
  between : (j : ℕ) → k ≤ j → j < k / 64 * 64 + b → j < k / 64 * 64 + 64 → blocked_at set j ≡ false
  between j l h g =
      let e : j ≡ 64 * (k / 64) + j % 64 = omega arith in
      ap (blocked_at set) e ∙ blocked-at set (k / 64) (j % 64) (omega arith)
      ∙ first-before (bit_at (get_or set (k / 64) 0)) (k % 64) (k % 64 + 64) (j % 64) (omega arith) (omega (arith, is))

  -- a bit of k's word is the lowest position
  pub found_here : b < 64 → k / 64 * 64 + b ≡ first_past set k
  found_here h =
      let x = get_or set (k / 64) 0 in
      let least : k % 64 ≤ b = rw (sym is) at (first-least (bit_at x) (k % 64) (k % 64 + 64)) in
      let hit : bit_at x b ≡ true = rw (sym is) at (first_passes (bit_at x) (k % 64) (k % 64 + 64) (omega arith) (omega (arith, is))) in
      let e : 64 * (k / 64) + b ≡ k / 64 * 64 + b = omega arith in
      sym (first-is (blocked_at set) k (k / 64 * 64 + b) most_positions (omega arith) (omega arith)
      (ap (blocked_at set) (sym e) ∙ blocked-at set (k / 64) b h ∙ hit)
      (λ j l m. between j l m (omega arith)))

  -- none is: the search goes on in the next word
  pub none_here : 64 ≤ b → first_past set (k / 64 * 64 + 64) ≡ first_past set k
  none_here h = sym (first-skip (blocked_at set) k (k / 64 * 64 + 64) most_positions (omega arith) (omega arith) (λ j l m. between j l (omega arith) m))

-- a set is the set of its positions
pub set_back : (set : List ℕ) → length set ≡ 32 → ((j : ℕ) → j < 32 → get_or set j 0 < 2 ^ 64) → set_of (blocked_at set) ≡ set
set_back set long fits =
    list-take (word_in (blocked_at set)) 32 set (omega (arith, long)) (λ j l. word-bits (get_or set j 0) 64 (fits j l)
    ∙ word-eq (bit_at (get_or set j 0)) (λ b. blocked_at set (64 * j + b)) 64 (λ b m. sym (blocked-at set j b m)))
    ∙ take_all 32 set (omega (arith, long))
