-- The greedy run of the cells below one does not look at its load, nor at any after it. Assumes nothing.
use mathlib.Core.Path.{◌≡◌, refl, sym, ap, ◌∙◌}
use mathlib.Core.Bool.{Bool}
use mathlib.Core.List.{List, ◌++◌}
use Prim.Native.Nat.{ℕ, zero, suc, ◌-◌, ◌<◌}
use native.Mathlib.Omega.{arith}
use lib.ListN.{get_or, set}
use lib.Seq.{get_or-set_other}
use Rattle.theory.specs.Net.{Net}
use Rattle.theory.specs.Greedy.{fill, row, held, Outcome, planned, no_room, close, next, run}
use Rattle.planner.specs.Loop.{PlannedTo}
use Rattle.planner.proofs.Marked.{marked-alike}
use Rattle.site.specs.Reach.{net_in}

module _ (cells n : ℕ) (clash : ℕ → ℕ → Bool) (usable : ℕ → Bool) (l m : List ℕ) where
  abbrev one : Net
  one = net_in cells n l clash usable

  abbrev other : Net
  other = net_in cells n m clash usable

  row_same : (t : List ℕ) (i : ℕ) → get_or l i 0 ≡ get_or m i 0 → row one t i ≡ row other t i
  row_same t i e =
      (λ x. fill usable 0 (e x) ((sym (marked-alike cells n l clash usable t i i) ∙ marked-alike cells n m clash usable t i i) x))

  next-same : (i : ℕ) (o : Outcome) → get_or l i 0 ≡ get_or m i 0 → next one (row one) i o ≡ next other (row other) i o
  next-same i (planned t) e = (λ x. close i (e x - held n (row_same t i e x)) (t ++ row_same t i e x))
  next-same i (no_room c k) e = refl

  run-same : (i : ℕ) → ((j : ℕ) → j < i → get_or l j 0 ≡ get_or m j 0) → run one (row one) i ≡ run other (row other) i
  unfolding run
  run-same zero same = refl
  run-same (suc i) same =
      ap (next one (row one) i) (run-same i (λ j h. same j (omega arith))) ∙ next-same i (run other (row other) i) (same i (omega arith))

-- the rows before cell k stand as planned, whatever its new load
pub planned-before : (cells n : ℕ) (loads : List ℕ) (clash : ℕ → ℕ → Bool) (usable : ℕ → Bool) (k v : ℕ) (t : List ℕ)
    → PlannedTo (net_in cells n loads clash usable) k t → PlannedTo (net_in cells n (set loads k v) clash usable) k t
planned-before cells n loads clash usable k v t h =
    run-same cells n clash usable (set loads k v) loads k (λ j l. get_or-set_other loads k j v 0 (λ e. omega arith)) ∙ h
