-- What is counted: a row is counted a stretch at a time, cell i's row is a part of the table, and where a count is not the load. Assumes nothing.
use mathlib.Core.Path.{◌≡◌, sym, ap, ap₂, ◌∙◌}
use mathlib.Core.Bool.{true, false, not}
use mathlib.Core.List.{List}
use Prim.Native.Nat.{ℕ, ◌+◌, ◌-◌, ◌*◌, ◌≤◌}
use native.Mathlib.Omega.{arith}
use lib.ListN.{length, get_or, length-take}
use borrow.Rule.Slice.PartMut.{mid_of}
use borrow.Author.Tests.{eq-eqb, ne_eqb}
use Rattle.laws.specs.Part.{part}
use Rattle.laws.specs.Sum.{bit, count}
use Rattle.laws.proofs.Part.{length_part, get_d_part}
use Rattle.laws.proofs.Sums.{sum-eq, count_most, sum-split}
use Rattle.theory.specs.Greedy.{sends, reserved, held}
use Rattle.theory.specs.Verdict.{wrong_in}
use Rattle.rowcounts.specs.Counts.{load_net}

-- r is the count of a part of t that is lent, of m bytes from a on
module _ (a m : ℕ) (t : List ℕ) {r : ℕ} (counted : r ≡ held (length (mid_of a m t)) (mid_of a m t)) where
  -- it is at most what is lent
  pub lent-most : r ≤ m
  lent-most =
      let short : length (mid_of a m t) ≤ m = rw length-take (omega arith) in
      omega (arith, counted, count_most (λ k. sends (get_or (mid_of a m t) k 0)) (length (mid_of a m t)), short)

  -- and counts those bytes of t
  lent-count : a + m ≤ length t → r ≡ count (λ k. sends (get_or t (a + k) 0)) m
  unfolding part
  lent-count h =
      counted
      ∙ ap (λ k. held k (mid_of a m t)) (length_part a m t h)
      ∙ sum-eq (λ k. bit (sends (get_or (mid_of a m t) k 0))) (λ k. bit (sends (get_or t (a + k) 0))) m
      (λ k l. ap (λ x. bit (sends x)) (get_d_part a m t k 0 l))

-- a stretch more, up to e
pub stretch-more : (a e : ℕ) (t : List ℕ) {c r : ℕ} → c ≡ held a t → r ≡ held (length (mid_of a (e - a) t)) (mid_of a (e - a) t) → a ≤ e → e ≤ length t
    → c + r ≡ held e t
stretch-more a e t {c} {r} i d l h =
    let q : a + (e - a) ≡ e = omega arith in
    ap₂ ◌+◌ i (lent-count a (e - a) t d (omega arith)) ∙ sym (sum-split (λ k. bit (sends (get_or t k 0))) a (e - a)) ∙ ap (λ k. held k t) q

-- cell i's row is a part of the table
pub row-counted : (n i : ℕ) (t : List ℕ) {r : ℕ} → i * n + n ≤ length t
    → r ≡ held (length (mid_of (i * n) (i * n + n - i * n) t)) (mid_of (i * n) (i * n + n - i * n) t) → r ≡ count (reserved n t i) n
row-counted n i t h d =
    let e : i * n + n - i * n ≡ n = omega arith in
    lent-count (i * n) (i * n + n - i * n) t d (omega arith) ∙ ap (count (reserved n t i)) e

-- a count against a load
module _ (cells n : ℕ) (loads t : List ℕ) (i : ℕ) {c : ℕ} (counted : c ≡ count (reserved n t i) n) where
  pub is-wrong : (c ≡ get_or loads i 0 → ⊥) → wrong_in (load_net cells n loads) (reserved n t) i ≡ true
  unfolding wrong_in
  is-wrong h = rw (← counted) (ap not (ne_eqb c (get_or loads i 0) h))

  pub is_right : c ≡ get_or loads i 0 → wrong_in (load_net cells n loads) (reserved n t) i ≡ false
  unfolding wrong_in
  is_right h = rw (← counted) (ap not (eq-eqb c (get_or loads i 0) h))
