-- Two problems with the same positions that agree on the loads and clashes of their cells have one greedy run: a cell's row looks at nothing else.
-- Assumes nothing.
use mathlib.Core.Path.{◌≡◌, refl, ap, ◌∙◌}
use mathlib.Core.Bool.{Bool}
use mathlib.Core.List.{List, ◌++◌}
use Prim.Native.Nat.{ℕ, zero, suc, ◌-◌, ◌*◌, ◌≤◌, ◌<◌}
use native.Mathlib.Omega.{arith}
use native.Mathlib.Nat.{le_refl}
use Rattle.laws.specs.Choice.{pick}
use Rattle.laws.specs.Part.{part}
use Rattle.theory.specs.Net.{Net}
use Rattle.theory.specs.Greedy.{forbid, marked, fill, row, held, Outcome, planned, no_room, close, next, run, greedy}

module _ (n w : ℕ) (usable : ℕ → Bool) (load other-load : ℕ → ℕ) (clash other-clash : ℕ → ℕ → Bool)
    (same_Load : (i : ℕ) → i < n → load i ≡ other-load i)
    (same_clash : (a b : ℕ) → a < n → b < n → clash a b ≡ other-clash a b) where
  abbrev one : Net
  one = record { cells = n; width = w; load = load; clash = clash; usable = usable }

  abbrev other : Net
  other = record { cells = n; width = w; load = other-load; clash = other-clash; usable = usable }

  marked-same : (t : List ℕ) (i j : ℕ) → i < n → j ≤ i → marked one t i j ≡ marked other t i j
  unfolding marked
  marked-same t i zero l h = refl
  marked-same t i (suc j) l h =
      (λ x.
      pick (same_clash j i (omega arith) l x)
      (forbid (part (j * w) w t) (marked-same t i j l (omega arith) x))
      (marked-same t i j l (omega arith) x))

  row_same : (t : List ℕ) (i : ℕ) → i < n → row one t i ≡ row other t i
  row_same t i l = (λ x. fill usable 0 (same_Load i l x) (marked-same t i i l (le_refl i) x))

  next-same : (i : ℕ) → i < n → (o : Outcome) → next one (row one) i o ≡ next other (row other) i o
  next-same i l (planned t) = (λ x. close i (same_Load i l x - held w (row_same t i l x)) (t ++ row_same t i l x))
  next-same i l (no_room c m) = refl

  run-same : (i : ℕ) → i ≤ n → run one (row one) i ≡ run other (row other) i
  unfolding run
  run-same zero h = refl
  run-same (suc i) h = ap (next one (row one) i) (run-same i (omega arith)) ∙ next-same i h (run other (row other) i)

  pub greedy-same : greedy one ≡ greedy other
  greedy-same = run-same n (le_refl n)
