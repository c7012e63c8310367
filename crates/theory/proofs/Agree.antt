-- The verdict on a table looks at it only within its cells and positions: two tables that agree there have one verdict.
-- Each search of the verdict is the same search.
-- Assumes nothing.
use mathlib.Core.Path.{◌≡◌, sym, ap, ap₂, ◌∙◌}
use mathlib.Core.Bool.{◌&&◌, not}
use mathlib.Core.Logic.{⊎_elim}
use Prim.Native.Nat.{ℕ, ◌+◌, ◌≤◌, ◌<◌, zero-le}
use native.Mathlib.Omega.{arith}
use lib.Dec.{ltb, eqb}
use borrow.Author.Tests.{ltb-true, ltb-false}
use Rattle.laws.specs.Sum.{bit, count}
use Rattle.laws.proofs.Choice.{cases}
use Rattle.laws.proofs.Search.{first-same, first-end}
use Rattle.laws.proofs.Sums.{sum-eq}
use Rattle.theory.specs.Net.{Net, Reserved}
use Rattle.theory.specs.Verdict.{barred, holder_at, barred_at, lowest_barred, open_verdict, bar_at, clash, wrong, second_at, clashes_at}
use Rattle.theory.specs.Verdict.{first_at, lowest_clash, wrong_in, lowest_wrong, wrong_at, clash_at, table_verdict}

module _ (s : Net) (res sat : Reserved) (same : (i k : ℕ) → i < s.cells → k < s.width → res i k ≡ sat i k) where
  second-agree : (k a : ℕ) → k < s.width → second_at s res k a ≡ second_at s sat k a
  unfolding second_at
  second-agree k a h =
      ⊎_elim
      (λ e.
      let l : a < s.cells = ltb-true a s.cells e in
      first-same (λ c. s.clash a c && res c k) (λ c. s.clash a c && sat c k) (a + 1) s.cells (omega arith)
      (λ c g m. ap (λ b. s.clash a c && b) (same c k m h)))
      (λ e.
      let l : s.cells ≤ a + 1 = omega (arith, ltb-false a s.cells e) in
      first-end (λ c. s.clash a c && res c k) (a + 1) s.cells l ∙ sym (first-end (λ c. s.clash a c && sat c k) (a + 1) s.cells l))
      (cases (ltb a s.cells))

  first-agree : (k : ℕ) → k < s.width → first_at s res k ≡ first_at s sat k
  unfolding first_at clashes_at
  first-agree k h =
      first-same (clashes_at s res k) (clashes_at s sat k) 0 s.cells zero-le
      (λ a g m. ap₂ (λ b c. b && ltb c s.cells) (same a k m h) (second-agree k a h))

  lowest-agree : lowest_clash s res ≡ lowest_clash s sat
  unfolding lowest_clash
  lowest-agree =
      first-same (λ k. ltb (first_at s res k) s.cells) (λ k. ltb (first_at s sat k) s.cells) 0 s.width zero-le
      (λ k g m. ap (λ a. ltb a s.cells) (first-agree k m))

  count-agree : (i : ℕ) → i < s.cells → count (res i) s.width ≡ count (sat i) s.width
  count-agree i h = sum-eq (λ k. bit (res i k)) (λ k. bit (sat i k)) s.width (λ k m. ap bit (same i k h m))

  wrong-agree : lowest_wrong s res ≡ lowest_wrong s sat
  unfolding lowest_wrong wrong_in
  wrong-agree = first-same (wrong_in s res) (wrong_in s sat) 0 s.cells zero-le (λ i g m. ap (λ c. not (eqb c (s.load i))) (count-agree i m))

  wrong-at : (i : ℕ) → wrong_at s res i ≡ wrong_at s sat i
  wrong-at i = ⊎_elim (λ e. rw e (ap (wrong i) (count-agree i (ltb-true i s.cells e)))) (λ e. rw e) (cases (ltb i s.cells))

  clash-at : (k : ℕ) → clash_at s res k ≡ clash_at s sat k
  clash-at k =
      ⊎_elim
      (λ e.
      let h = ltb-true k s.width e in
      rw e (ap₂ (clash k) (first-agree k h) (second-agree k (first_at s res k) h ∙ ap (second_at s sat k) (first-agree k h))))
      (λ e. rw e (ap (wrong_at s res) wrong-agree ∙ wrong-at (lowest_wrong s sat)))
      (cases (ltb k s.width))

  open-agree : open_verdict s res ≡ open_verdict s sat
  unfolding open_verdict
  open-agree = ap (clash_at s res) lowest-agree ∙ clash-at (lowest_clash s sat)

  holder-agree : (k : ℕ) → k < s.width → holder_at s res k ≡ holder_at s sat k
  unfolding holder_at
  holder-agree k h = first-same (λ i. res i k) (λ i. sat i k) 0 s.cells zero-le (λ i g m. same i k m h)

  barred-agree : lowest_barred s res ≡ lowest_barred s sat
  unfolding lowest_barred barred_at
  barred-agree =
      first-same (barred_at s res) (barred_at s sat) 0 s.width zero-le
      (λ k g m. ap (λ a. not (s.usable k) && ltb a s.cells) (holder-agree k m))

  bar-at : (k : ℕ) → bar_at s res k ≡ bar_at s sat k
  bar-at k =
      ⊎_elim (λ e. rw e (ap (barred k) (holder-agree k (ltb-true k s.width e)))) (λ e. rw e open-agree) (cases (ltb k s.width))

  pub verdict-agree : table_verdict s res ≡ table_verdict s sat
  unfolding table_verdict
  verdict-agree = ap (bar_at s res) barred-agree ∙ bar-at (lowest_barred s sat)
