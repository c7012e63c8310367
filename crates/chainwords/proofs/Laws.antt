-- The two searches in a row find what the definition's nested ones do: below the first cell b that does not clash with a, no pair breaks,
-- since every gap is empty; past it, each cell that clashes with a breaks, with the gap at b.
-- And two ways to say who counts, that agree on the cells, find the same.
-- Assumes nothing.
use Prim.Native.Nat.{ℕ, ◌+◌, ◌≤◌, ◌<◌, zero-le}
use mathlib.Core.Bool.{Bool, true, false, not, ◌&&◌, and-true, and-false}
use mathlib.Core.Logic.{⊎_elim}
use mathlib.Core.Path.{◌≡◌, sym, ap, ap₂, ◌∙◌}
use native.Mathlib.Nat.{eq-or-lt_of_le}
use native.Mathlib.Omega.{arith}
use borrow.Author.Tests.{ltb-true, lt-ltb, le-ltb, not-true}
use lib.Dec.{ltb}
use Rattle.laws.specs.Choice.{pick}
use Rattle.laws.specs.Search.{first}
use Rattle.laws.proofs.Choice.{both}
use Rattle.laws.proofs.Search.{first-least, first-most, first_passes, first-before, first-none, first-skip, first-is, first-same}
use Rattle.theory.specs.Net.{Net}
use Rattle.theory.specs.Verdict.{gap, breaks, break_of, first_break, second, splits, split_of, first_split}

module _ (s : Net) (who : ℕ → Bool) where
  gap-least : (a c : ℕ) → a + 1 ≤ gap s who a c
  unfolding gap
  gap-least a c = first-least (λ b. who b && not (s.clash a b)) (a + 1) c

  pub gap-most : (a c : ℕ) → a + 1 ≤ c → gap s who a c ≤ c
  unfolding gap
  gap-most a c h = first-most (λ b. who b && not (s.clash a b)) (a + 1) c h

  pub break-least : (a : ℕ) → a + 1 ≤ break_of s who a
  unfolding break_of
  break-least a = first-least (breaks s who a) (a + 1) s.cells

  -- the first cell that breaks with another does so with a cell of the site
  pub break-inside : (a : ℕ) → a ≡ first_break s who → a < s.cells → break_of s who a < s.cells
  unfolding first_break
  break-inside a e h = rw e (ltb-true _ _ (first_passes (λ k. ltb (break_of s who k) s.cells) 0 s.cells zero-le (rw e at h)))

  module _ (a : ℕ) (inside : a < s.cells) (counts : who a ≡ true) where
    -- the test of a gap, and the first of all the cells above a that passes it
    abbrev apart : ℕ → Bool
    apart b = who b && not (s.clash a b)

    before : (j : ℕ) → a + 1 ≤ j → j < gap s who a s.cells → apart j ≡ false
    unfolding gap
    before j l h = first-before apart (a + 1) s.cells j l h

    here : gap s who a s.cells < s.cells → apart (gap s who a s.cells) ≡ true
    unfolding gap
    here h = first_passes apart (a + 1) s.cells (omega arith) h

    -- up to it no pair breaks
    near : (c : ℕ) → a + 1 ≤ c → c ≤ gap s who a s.cells → breaks s who a c ≡ false
    unfolding breaks gap
    near c l h =
        let none : gap s who a c ≡ c = first-none apart (a + 1) c l (λ j g m. before j g (omega arith)) in
        let shut : ltb (gap s who a c) c ≡ false = rw none (le-ltb c c (omega arith)) in
        simp (shut, and-false)

    -- past it a pair breaks that clashes
    far : (c : ℕ) → gap s who a s.cells < c → c < s.cells → breaks s who a c ≡ (who c && s.clash a c)
    unfolding breaks gap
    far c l h =
        let g = gap s who a s.cells in
        let there : gap s who a c ≡ g = first-is apart (a + 1) g c (gap-least a s.cells) l (here (omega arith)) (λ j k m. before j k m) in
        let wide : ltb (gap s who a c) c ≡ true = rw there (lt-ltb g c l) in
        simp (counts, wide, and-true)

    from : (c : ℕ) → gap s who a s.cells ≤ c → c < s.cells → breaks s who a c ≡ (who c && s.clash a c)
    from c l h =
        ⊎_elim
        (λ e.
        let apart-here = both (who c) (not (s.clash a c)) (rw e at (here (omega arith))) in
        near c (omega (arith, gap-least a s.cells)) (omega arith) ∙ sym (simp (not-true (s.clash a c) apart-here.1, and-false)))
        (λ m. far c m h) (eq-or-lt_of_le l)

    -- so that the first break is the first cell from there on that clashes with a
    pub break-short : break_of s who a ≡ first (λ c. who c && s.clash a c) (gap s who a s.cells) s.cells
    unfolding break_of
    break-short =
        let g = gap s who a s.cells in
        let most : g ≤ s.cells = gap-most a s.cells (omega arith) in
        first-skip (breaks s who a) (a + 1) g s.cells (gap-least a s.cells) most (λ j k m. near j k (omega arith))
        ∙ first-same (breaks s who a) (λ c. who c && s.clash a c) g s.cells most from

-- a cell that does not count breaks with none
pub break-none : (s : Net) (who : ℕ → Bool) (a : ℕ) → a < s.cells → who a ≡ false → break_of s who a ≡ s.cells
unfolding break_of breaks
break-none s who a h e = first-none (breaks s who a) (a + 1) s.cells (omega arith) (λ c _ _. simp e)

-- two ways to say who counts, that agree on the cells, find the same
module _ (s : Net) (p q : ℕ → Bool) (same : (i : ℕ) → i < s.cells → p i ≡ q i) where
  pub gap_same : (a c : ℕ) → a + 1 ≤ c → c ≤ s.cells → gap s p a c ≡ gap s q a c
  unfolding gap
  gap_same a c l h =
      first-same (λ b. p b && not (s.clash a b)) (λ b. q b && not (s.clash a b)) (a + 1) c l
      (λ b _ m. ap (λ t. t && not (s.clash a b)) (same b (omega arith)))

  breaks-same : (a c : ℕ) → a + 1 ≤ c → c < s.cells → breaks s p a c ≡ breaks s q a c
  unfolding breaks
  breaks-same a c l h = simp (same a (omega arith), same c h, gap_same a c l (omega arith))

  pub break-same : (a : ℕ) → a < s.cells → break_of s p a ≡ break_of s q a
  unfolding break_of
  break-same a h = first-same (breaks s p a) (breaks s q a) (a + 1) s.cells (omega arith) (breaks-same a)

  pub first-break-same : first_break s p ≡ first_break s q
  unfolding first_break
  first-break-same =
      first-same (λ a. ltb (break_of s p a) s.cells) (λ a. ltb (break_of s q a) s.cells) 0 s.cells zero-le
      (λ a _ h. ap (λ (n : ℕ). ltb n s.cells) (break-same a h))

  pub second-same : (i a : ℕ) → a < i → i < s.cells → second s p i a ≡ second s q i a
  unfolding second
  second-same i a l h =
      first-same (λ b. (p b && s.clash b i) && not (s.clash a b)) (λ b. (q b && s.clash b i) && not (s.clash a b)) (a + 1) i (omega arith)
      (λ b _ m. ap (λ t. (t && s.clash b i) && not (s.clash a b)) (same b (omega arith)))

  splits-same : (i a : ℕ) → a < i → i < s.cells → splits s p i a ≡ splits s q i a
  unfolding splits
  splits-same i a l h = simp (same a (omega arith), second-same i a l h)

  pub split-same : (i : ℕ) → i < s.cells → split_of s p i ≡ split_of s q i
  unfolding split_of
  split-same i h =
      ap₂ (λ t (n : ℕ). pick t n i) (same i h) (first-same (splits s p i) (splits s q i) 0 i zero-le (λ a _ l. splits-same i a l h))

  pub first-split-same : first_split s p ≡ first_split s q
  unfolding first_split
  first-split-same =
      first-same (λ i. ltb (split_of s p i) i) (λ i. ltb (split_of s q i) i) 0 s.cells zero-le (λ i _ h. ap (λ (n : ℕ). ltb n i) (split-same i h))

-- A search for a cell of a word that passes a test goes from one cell of the word to the next: it stands at a, a cell of the word or the end,
-- and what is left from there gives the answer x.
pub record At (word test : ℕ → Bool) (x a e : ℕ) : Type 0 where
  pub left : x ≡ first (λ k. word k && test k) a e
  pub member : a < e → word a ≡ true
  pub most : a ≤ e

pub next-member : (word test : ℕ → Bool) (x k e a : ℕ) → k ≤ e → a ≡ first word k e → x ≡ first (λ j. word j && test j) k e → At word test x a e
next-member word test x k e a h is left =
    let low : k ≤ a = rw is (first-least word k e) in
    let high : a ≤ e = rw is (first-most word k e h) in
    record {
      left = left ∙ first-skip (λ j. word j && test j) k a e low high
          (λ j l m. ap (λ t. t && test j) (first-before word k e j l (omega (arith, is))));
      member = λ l. rw is (first_passes word k e h (omega (arith, is)));
      most = high;
    }
