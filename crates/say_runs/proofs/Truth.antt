-- The runs of a row say the row: each number that is not 0 is in a run, all numbers of a run are one, and no two runs share a place. Assumes nothing.
--     runs-tell   a place is in a run exactly where its number is not 0
--     run-same    and then the run's number is its own
--     runs-apart  a run ends before the next one starts
use Prim.Native.Nat.{ℕ, zero, suc, ◌+◌, ◌≤◌, ◌<◌}
use mathlib.Core.Path.{◌≡◌, sym, ap, ◌∙◌}
use mathlib.Core.Bool.{Bool, true, false, true≢false, not}
use mathlib.Core.List.{List}
use mathlib.Core.Logic.{◌↔◌, ⊎_elim}
use native.Mathlib.Omega.{arith}
use lib.Dec.{eqb}
use lib.ListN.{length, get_or}
use borrow.Author.Tests.{eq-eqb, ne_eqb, eqb-true, not-true, not-false}
use Rattle.laws.proofs.Choice.{both, cases, at_least}
use Rattle.laws.specs.Search.{first}
use Rattle.laws.proofs.Search.{first-before, first_passes, first-least}
use Rattle.say_runs.specs.Runs.{number_before, starts_run, run_stop}

above : (x y : ℕ) → x ≤ y → (y ≡ x → ⊥) → x + 1 ≤ y
above x y h n = at_least (x + 1) y (λ l. n (omega arith))

module _ (row : List ℕ) where
  abbrev at : ℕ → ℕ
  at i = get_or row i 0

  abbrev other : ℕ → ℕ → Bool
  other a j = not (eqb (at j) (at a))

  starts : (i : ℕ) → (at i ≡ 0 → ⊥) → (number_before row i ≡ at i → ⊥) → starts_run row i ≡ true
  unfolding starts_run
  starts i h l = rw (ne_eqb (at i) 0 h, ne_eqb (number_before row i) (at i) l)

  started : (i : ℕ) → starts_run row i ≡ true → (at i ≡ 0 → ⊥) × (number_before row i ≡ at i → ⊥)
  unfolding starts_run
  started i e =
      let x = both (not (eqb (at i) 0)) (not (eqb (number_before row i) (at i))) e in (
        λ z. true≢false (sym (eq-eqb (at i) 0 z) ∙ not-true _ x.0),
        λ z. true≢false (sym (eq-eqb (number_before row i) (at i) z) ∙ not-true _ x.1),
      )

  -- all numbers of a run are one
  pub run-same : (a t : ℕ) → a ≤ t → t < run_stop row a → at t ≡ at a
  unfolding run_stop
  run-same a t h l = ⊎_elim (λ e. ap at (eqb-true t a e)) (λ e. past e) (cases (eqb t a))
    where
      past : eqb t a ≡ false → at t ≡ at a
      past e =
          let apart : t ≡ a → ⊥ = λ z. true≢false (sym (eq-eqb t a z) ∙ e) in
          let more : a + 1 ≤ t = above a t h apart in
          eqb-true (at t) (at a) (not-false _ (first-before (other a) (a + 1) (length row) t more l))

  -- where the run of a place starts
  abbrev Start : ℕ → Type 0
  Start t = (a : ℕ) × (a ≤ t) × (starts_run row a ≡ true) × ((j : ℕ) → a ≤ j → j ≤ t → at j ≡ at t)

  here : (t : ℕ) → starts_run row t ≡ true → Start t
  here t e = (t, omega arith, e, λ j h l. ap at (omega arith))

  start-more : (t : ℕ) → at t ≡ at (suc t) → Start t → Start (suc t)
  start-more t e w = (w.0, omega (arith, w.1), w.2, all)
    where
      all : (j : ℕ) → w.0 ≤ j → j ≤ suc t → at j ≡ at (suc t)
      all j h l = ⊎_elim (λ q. ap at (eqb-true j (suc t) q)) (λ q. w.3 j h (below q) ∙ e) (cases (eqb j (suc t)))
        where
          below : eqb j (suc t) ≡ false → j ≤ t
          below q = at_least j t (λ m. true≢false (sym (eq-eqb j (suc t) (omega (arith, l, m))) ∙ q))

  start_of : (t : ℕ) → (at t ≡ 0 → ⊥) → Start t
  start_of zero h = here zero (starts zero h (λ z. h (sym z)))
  start_of (suc t) h =
      ⊎_elim
      (λ q. let e = eqb-true (at t) (at (suc t)) q in start-more t e (start_of t (λ z. h (sym e ∙ z))))
      (λ q. here (suc t) (starts (suc t) h (λ z. true≢false (sym (eq-eqb (at t) (at (suc t)) z) ∙ q))))
      (cases (eqb (at t) (at (suc t))))

  -- such a run has not ended
  goes_on : (t : ℕ) → t < length row → (w : Start t) → t < run_stop row w.0
  unfolding run_stop
  goes_on t h w =
      let a = w.0 in
      let e = first (other a) (a + 1) (length row) in
      at_least (suc t) e (λ l.
      let low = first-least (other a) (a + 1) (length row) in
      let differs = first_passes (other a) (a + 1) (length row) (omega (arith, w.1)) (omega arith) in
      let same : at e ≡ at a = w.3 e (omega arith) (omega arith) ∙ sym (w.3 a (omega arith) w.1) in
      true≢false (sym (eq-eqb (at e) (at a) same) ∙ not-true _ differs))

  pub runs-tell : (t : ℕ) → t < length row → (at t ≡ 0 → ⊥) ↔ ((a : ℕ) × (a ≤ t) × (starts_run row a ≡ true) × (t < run_stop row a))
  runs-tell t h = (
    λ some. let w = start_of t some in (w.0, w.1, w.2, goes_on t h w),
    λ w z. (started w.0 w.2).0 (sym (run-same w.0 t w.1 w.3) ∙ z),
  )

  pub runs-apart : (a b : ℕ) → a < b → starts_run row b ≡ true → run_stop row a ≤ b
  runs-apart a zero h e = absurd (omega arith)
  runs-apart a (suc b) h e =
      at_least (run_stop row a) (suc b) (λ l.
      (started (suc b) e).1 (run-same a b (omega arith) (omega arith) ∙ sym (run-same a (suc b) (omega arith) l)))
