-- Every pair is counted once: the clash rows have each pair twice, once at either of its cells. And the rows' bits below their own cells are the
-- pairs, since a clash goes both ways. Assumes nothing.
use Prim.Native.Nat.{ℕ, zero, suc, ◌*◌, ◌<◌}
use mathlib.Core.Path.{◌≡◌, refl, ap, ◌∙◌}
use mathlib.Core.Bool.{Bool, true, false, ◌&&◌}
use native.Mathlib.Omega.{arith}
use lib.Dec.{ltb}
use Rattle.laws.specs.Bits.{bit_at, bit_in, word_of}
use Rattle.laws.specs.Sum.{bit, sum, count}
use Rattle.laws.proofs.Sums.{sum-eq, sum-add}
use Rattle.laws.proofs.Words.{word-bit}
use Rattle.laws.proofs.Stores.{list_at}
use Rattle.site.specs.declared.Site.{Site}
use Rattle.site.specs.Reach.{clash_within, clash_rows}
use Rattle.site.proofs.Reach.{clash-sym, clash-self}
use Rattle.clashcount.specs.Count.{clash_count}

exchanged : (t u v w : Bool) → v ≡ w → (t && (u && v)) ≡ (u && (t && w))
exchanged true true v w e = e
exchanged true false v w e = refl
exchanged false true v w e = refl
exchanged false false v w e = refl

module _ (s : Site) where
  within-sym : (a c : ℕ) → clash_within s a c ≡ clash_within s c a
  within-sym a c = exchanged (ltb a s.cells) (ltb c s.cells) _ _ (clash-sym s.rule s.reach a c)

  within-self : (a : ℕ) → clash_within s a a ≡ false
  within-self a =
      ap (λ (t : Bool). ltb a s.cells && (ltb a s.cells && t)) (clash-self s.rule s.reach a)
      ∙ none (ltb a s.cells)
    where
      none : (t : Bool) → (t && (t && false)) ≡ false
      none true = refl
      none false = refl

  row-at : (c a : ℕ) → c < 32 → a < 32 → bit_in (clash_rows s) c a ≡ clash_within s a c
  unfolding clash_rows
  row-at c a h l =
      ap (λ (x : ℕ). bit_at x a) (list_at (λ k. word_of (clash_within s k) 32) 32 c h)
      ∙ word-bit (clash_within s c) 32 a l
      ∙ within-sym c a

  -- the rows' bits, each below its own cell, are the pairs
  pub rows-counted : sum (λ c. count (bit_in (clash_rows s) c) c) 32 ≡ clash_count s
  unfolding clash_count
  rows-counted =
      sum-eq (λ c. count (bit_in (clash_rows s) c) c) (λ c. count (λ a. clash_within s a c) c) 32 (λ c h.
      sum-eq (λ a. bit (bit_in (clash_rows s) c a)) (λ a. bit (clash_within s a c)) c (λ a l. ap bit (row-at c a h (omega arith))))

  -- of the first n cells
  twice : (n : ℕ) → sum (λ c. count (clash_within s c) n) n ≡ 2 * sum (λ c. count (λ a. clash_within s a c) c) n
  unfolding sum
  twice zero = refl
  twice (suc n) =
      let added = sum-add (λ c. count (clash_within s c) n) (λ c. bit (clash_within s c n)) n in
      let turned = sum-eq (λ a. bit (clash_within s n a)) (λ a. bit (clash_within s a n)) n (λ a l. ap bit (within-sym n a)) in
      omega (arith, added, turned, twice n, ap bit (within-self n))

  -- every pair is counted once: each of its two cells clashes with the other
  pub pairs-once : sum (λ c. count (clash_within s c) 32) 32 ≡ 2 * clash_count s
  unfolding clash_count
  pairs-once = twice 32
