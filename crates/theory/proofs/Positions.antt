-- The run by cells is the run by positions, for any problem, whatever positions are usable. What a cell has left before a position is its load less the
-- positions that it took, and less those that were free for it; `row-reserved` says the same of its row in the run by cells,
-- so by the number of cells the two agree.
--     left-count       what a cell has left is its load less what it took
--     takes-is         a cell takes a position exactly where it is free there and fewer than its load are taken before it
--     greedy-plans     where no cell has anything left at the end, the run by cells hands a table back, and it reserves just that
--     greedy-short     else it names the lowest cell that has, and what that has left
-- Assumes nothing.
use mathlib.Core.Path.{◌≡◌, refl, sym, ap, ap₂, ◌∙◌}
use mathlib.Core.Bool.{Bool, true, false, ◌&&◌, not, and_comm}
use mathlib.Core.List.{List, [], ◌++◌}
use mathlib.Core.Logic.{⊎_elim}
use Prim.Native.Nat.{ℕ, zero, suc, ◌+◌, ◌-◌, ◌*◌, ◌≤◌, ◌<◌, zero-le}
use native.Mathlib.Omega.{arith}
use native.Mathlib.Numerals.{add-one}
use native.Mathlib.Nat.{eq-or-lt_of_le, le_of_suc-le-suc, le_refl}
use lib.Dec.{ltb, eqb}
use lib.ListN.{length, get_or}
use borrow.Author.Tests.{ltb-true, ltb-false, lt-ltb, le-ltb}
use Rattle.laws.specs.Sum.{bit, sum, count, any}
use Rattle.laws.proofs.Any.{any-eq}
use Rattle.laws.proofs.Choice.{cases}
use Rattle.laws.proofs.Search.{first-before, first_passes}
use Rattle.laws.proofs.Sums.{sum-eq}
use Rattle.theory.specs.Net.{Net, free}
use Rattle.theory.specs.Greedy.{reserved, row, held, planned, no_room, close, next, run, greedy}
use Rattle.theory.proofs.Row.{row-reserved, row_count-law, kept, added}
use Rattle.theory.proofs.Run.{run-good}
use Rattle.theory.proofs.Loops.{run-stays}
use Rattle.theory.proofs.Exact.{greedy-fair}
use Rattle.theory.specs.Positions.{chosen, left_at, need_at, takes, short_cell}
use Rattle.theory.proofs.Chosen.{chosen_is}

-- ---- small steps

left_step : (f : Bool) (l c m : ℕ) → l ≡ m - c → l - bit (f && ltb 0 l) ≡ m - (c + bit f)
left_step true l c m e = ⊎_elim (λ h. rw h (omega arith)) (λ h. rw h (omega (arith, ltb-false 0 l h))) (cases (ltb 0 l))
left_step false l c m e = omega arith

left-test : (c m : ℕ) → ltb 0 (m - c) ≡ ltb c m
left-test c m =
    ⊎_elim (λ h. lt-ltb 0 (m - c) (omega (arith, ltb-true c m h)) ∙ sym h) (λ h. le-ltb 0 (m - c) (omega (arith, ltb-false c m h)) ∙ sym h) (cases (ltb c m))

usable-step : (u n : Bool) (chose : ℕ → Bool) (clash : ℕ → Bool) (i : ℕ) → chose i ≡ (n && not (any (λ j. clash j && chose j) i))
    → (u && chose i) ≡ ((u && not (any (λ j. clash j && (u && chose j)) i)) && n)
usable-step true n chose clash i e = e ∙ and_comm n _
usable-step false n chose clash i e = refl

module _ (s : Net) where
  pub left-start : (i : ℕ) → left_at s 0 i ≡ s.load i
  unfolding left_at
  left-start i = refl

  pub left-next : (k i : ℕ) → left_at s (suc k) i ≡ left_at s k i - bit (takes s i k)
  unfolding left_at
  left-next k i = refl

  pub takes-free : (i k : ℕ) → takes s i k ≡ (free s (takes s) i k && ltb 0 (left_at s k i))
  takes-free i k =
      usable-step (s.usable k) (need_at s k i) (chosen s.clash (need_at s k)) (λ j. s.clash j i) i (chosen_is s.clash (need_at s k) i)

  pub left-count : (i k : ℕ) → left_at s k i ≡ s.load i - count (takes s i) k
  unfolding sum
  left-count i zero = omega (arith, left-start i)
  left-count i (suc k) = omega (arith, left-next k i, left-count i k)

  pub left-free : (i k : ℕ) → left_at s k i ≡ s.load i - count (free s (takes s) i) k
  unfolding sum
  left-free i zero = omega (arith, left-start i)
  left-free i (suc k) =
      left-next k i ∙ ap (λ t. left_at s k i - bit t) (takes-free i k)
      ∙ left_step (free s (takes s) i k) (left_at s k i) (count (free s (takes s) i) k) (s.load i) (left-free i k)

  pub takes-is : (i k : ℕ) → takes s i k ≡ (free s (takes s) i k && ltb (count (takes s i) k) (s.load i))
  takes-is i k =
      takes-free i k ∙ ap (λ t. free s (takes s) i k && t) (ap (ltb 0) (left-count i k) ∙ left-test (count (takes s i) k) (s.load i))

  takes_first : (i k : ℕ) → takes s i k ≡ (free s (takes s) i k && ltb (count (free s (takes s) i) k) (s.load i))
  takes_first i k =
      takes-free i k ∙ ap (λ t. free s (takes s) i k && t) (ap (ltb 0) (left-free i k) ∙ left-test (count (free s (takes s) i) k) (s.load i))

  -- ---- the run by cells

  -- t reserves for the cells below n what the positions give them
  abbrev pub Agrees : ℕ → List ℕ → Type 0
  Agrees n t = (i k : ℕ) → i < n → k < s.width → reserved s.width t i k ≡ takes s i k

  module _ (i : ℕ) (t : List ℕ) (same : Agrees i t) where
    same-free : (k : ℕ) → k < s.width → free s (reserved s.width t) i k ≡ free s (takes s) i k
    same-free k h =
        ap (λ a. s.usable k && not a)
        (any-eq (λ j. s.clash j i && reserved s.width t j k) (λ j. s.clash j i && takes s j k) i (λ j l. ap (λ b. s.clash j i && b) (same j k l h)))

    same_count : (k : ℕ) → k ≤ s.width → count (free s (reserved s.width t) i) k ≡ count (free s (takes s) i) k
    same_count k h =
        sum-eq (λ q. bit (free s (reserved s.width t) i q)) (λ q. bit (free s (takes s) i q)) k (λ q l. ap bit (same-free q (omega arith)))

    pub row-takes : (k : ℕ) → k < s.width → eqb (get_or (row s t i) k 0) 1 ≡ takes s i k
    row-takes k h =
        row-reserved s t i k h
        ∙ ap₂ (λ f c. f && ltb c (s.load i)) (same-free k h) (same_count k (omega arith))
        ∙ sym (takes_first i k)

    -- what the row is short is what is left at the end
    pub row-left : s.load i - held s.width (row s t i) ≡ left_at s s.width i
    row-left = omega (arith, row_count-law s t i, same_count s.width (le_refl s.width), left-free i s.width)

    pub agrees-more : length t ≡ i * s.width → Agrees (suc i) (t ++ row s t i)
    agrees-more size j k l h =
        ⊎_elim
        (λ e. rw e (added s.width t (row s t i) i size k ∙ row-takes k h))
        (λ m. kept s.width t (row s t i) i size j k m h ∙ same j k m h)
        (eq-or-lt_of_le (le_of_suc-le-suc l))

  -- cell n's turn in the run
  next-left : (n : ℕ) (t : List ℕ) → run s (row s) n ≡ planned t → Agrees n t → run s (row s) (suc n) ≡ close n (left_at s s.width n) (t ++ row s t n)
  unfolding run
  next-left n t e same = ap (next s (row s) n) e ∙ ap (λ m. close n m (t ++ row s t n)) (row-left n t same)

  -- Nothing is left of the loads of the cells below n.
  abbrev pub Met : ℕ → Type 0
  Met n = (i : ℕ) → i < n → left_at s s.width i ≡ 0

  run_none : run s (row s) 0 ≡ planned []
  unfolding run
  run_none = refl

  pub run-plans : (n : ℕ) → Met n → (t : List ℕ) × (run s (row s) n ≡ planned t) × Agrees n t
  run-plans zero met = ([], run_none, λ i k l. absurd (omega arith))
  run-plans (suc n) met =
      let h = run-plans n (λ i l. met i (omega arith)) in
      let t = h.0 in (
        t ++ row s t n,
        next-left n t h.1 h.2 ∙ ap (λ m. close n m (t ++ row s t n)) (met n (le_refl (suc n))),
        agrees-more n t h.2 (run-good s (row s) (greedy-fair s) n t h.1).size,
      )

  -- a cell with something left ends the run
  short-close : (n m : ℕ) (t : List ℕ) → 0 < m → close n m t ≡ no_room n m
  short-close n zero t h = absurd (omega arith)
  short-close n (suc m) t h = refl

  pub run_short : (c n : ℕ) → c < n → Met c → 0 < left_at s s.width c → run s (row s) n ≡ no_room c (left_at s s.width c)
  run_short c n l met some =
      let h = run-plans c met in
      let stop : run s (row s) (c + 1) ≡ no_room c (left_at s s.width c)
      = ap (run s (row s)) (add-one c) ∙ next-left c h.0 h.1 h.2
      ∙ short-close c (left_at s s.width c) (h.0 ++ row s h.0 c) some in
      run-stays s (row s) (c + 1) c (left_at s s.width c) stop n (omega arith)

  before-met : (n : ℕ) → Met (short_cell s n)
  before-met n i l = omega (arith, ltb-false 0 (left_at s s.width i) (first-before (need_at s s.width) 0 n i zero-le l))

  -- The outcome: the lowest cell with something left at the end has no room, and is short of just that.
  pub greedy-short : short_cell s s.cells < s.cells → greedy s ≡ no_room (short_cell s s.cells) (left_at s s.width (short_cell s s.cells))
  greedy-short l =
      run_short (short_cell s s.cells) s.cells l (before-met s.cells)
      (ltb-true 0 _ (first_passes (need_at s s.width) 0 s.cells zero-le l))

  -- And where no cell has, there is a plan, and it reserves what the positions give.
  pub greedy-plans : s.cells ≤ short_cell s s.cells → (t : List ℕ) × (greedy s ≡ planned t) × Agrees s.cells t
  greedy-plans l = run-plans s.cells (λ i m. before-met s.cells i (omega arith))
