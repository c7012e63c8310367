-- A run of equal words, from p up to where another stands: all of them have a clash or none has,
-- and each of their cells is counted as often as the run is long.
-- Assumes nothing.
use mathlib.Core.Path.{◌≡◌, sym, ap, ◌∙◌}
use mathlib.Core.Bool.{Bool, true, false}
use mathlib.Core.List.{List}
use mathlib.Core.Logic.{⊎_elim}
use Prim.Native.Nat.{ℕ, zero, suc, ◌+◌, ◌-◌, ◌≤◌, ◌<◌}
use native.Mathlib.Nat.{eq-or-lt_of_le}
use native.Mathlib.Omega.{arith}
use lib.Dec.{eqb}
use lib.ListN.{get_or, replicate, length-replicate, get_or-replicate}
use borrow.Author.Tests.{eqb-true, not-false}
use Rattle.laws.specs.Bits.{bit_at}
use Rattle.laws.specs.Choice.{pick}
use Rattle.laws.specs.Search.{first}
use Rattle.laws.specs.Sum.{bit, sum, count}
use Rattle.laws.proofs.Search.{first-least, first-most, first-before, first-skip}
use Rattle.laws.proofs.Sums.{count_most}
use Rattle.wordforms.specs.Words.{sends_at}
use Rattle.wordtable.specs.Tally.{differs, Room, Added, CountedTo}

-- no word yet
pub none-counted : (cells : ℕ) (words : List ℕ) → cells ≤ 32 → CountedTo cells words 0 (replicate 32 0)
unfolding sum
none-counted cells words h = (rw length-replicate h, λ j l. get_or-replicate 32 j 0 0 (omega arith))

-- a stretch whose numbers all pass, or all do not
count_same : (p : ℕ → Bool) (t : Bool) (n d : ℕ) → ((k : ℕ) → n ≤ k → k < n + d → p k ≡ t) → count p (n + d) ≡ count p n + pick t d 0
unfolding sum
count_same p t n zero h = let e : n + 0 ≡ n = omega arith in rw e (nothing t)
  where
    nothing : (t : Bool) → count p n ≡ count p n + pick t 0 0
    nothing true = omega arith
    nothing false = omega arith
count_same p t n (suc d) h =
    let e : n + suc d ≡ suc (n + d) = omega arith in
    rw (e, h (n + d) (omega arith) (omega arith)) (one t (count_same p t n d (λ k l m. h k l (omega arith))))
  where
    one : (t : Bool) → count p (n + d) ≡ count p n + pick t d 0 → count p (n + d) + bit t ≡ count p n + pick t (suc d) 0
    one true e = omega arith
    one false e = omega arith

module _ (words : List ℕ) (p n to : ℕ) (inside : p < n) (run : to ≡ first (differs words p) (p + 1) n) where
  pub run-least : p < to
  run-least = omega (arith, first-least (differs words p) (p + 1) n)

  pub run-most : to ≤ n
  run-most = omega (arith, first-most (differs words p) (p + 1) n (omega arith))

  same_word : (j : ℕ) → p ≤ j → j < to → get_or words j 0 ≡ get_or words p 0
  same_word j l h =
      ⊎_elim (λ e. ap (λ (m : ℕ). get_or words m 0) (sym e))
      (λ g. eqb-true _ _ (not-false (eqb (get_or words j 0) (get_or words p 0)) (first-before (differs words p) (p + 1) n j (omega arith) (omega arith))))
      (eq-or-lt_of_le l)

  -- a run with no clash is passed
  pub run-passed : (clash : ℕ → Bool) {x : ℕ} → x ≡ first (λ k. clash (get_or words k 0)) p n → clash (get_or words p 0) ≡ false
      → x ≡ first (λ k. clash (get_or words k 0)) to n
  run-passed clash i e =
      i ∙ first-skip (λ k. clash (get_or words k 0)) p to n (omega (arith, run-least)) run-most (λ j l h. ap clash (same_word j l h) ∙ e)

  -- and counted
  pub run_room : (cells : ℕ) (counts : List ℕ) → CountedTo cells words p counts → n ≤ 2048 → Room cells (to - p) counts
  run_room cells counts c small = (c.0, λ j h. omega (arith, c.1 j h, count_most (sends_at words j) p, run-least, run-most))

  pub run-counted : (cells : ℕ) (counts after : List ℕ) → CountedTo cells words p counts → Added cells (get_or words p 0) (to - p) counts after
      → CountedTo cells words to after
  run-counted cells counts after c a = (
    omega (arith, c.0, a.0),
    λ j h.
        let e : p + (to - p) ≡ to = omega (arith, run-least) in
        a.1 j h
        ∙ ap (λ (m : ℕ). m + pick (bit_at (get_or words p 0) j) (to - p) 0) (c.1 j h)
        ∙ sym (count_same (sends_at words j) (bit_at (get_or words p 0) j) p (to - p)
        (λ k l m. ap (λ (w : ℕ). bit_at w j) (same_word k l (omega (arith, run-least)))))
        ∙ ap (count (sends_at words j)) e,
  )
