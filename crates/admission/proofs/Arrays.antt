-- Where no flow is refused, the three arrays state the flows of the list: each flow is in one of the cells, and past the flows stand zeros.
-- So the search over the arrays is the one over the list (`same-best`). What the arrays state of the site is in proofs/Rooms.antt.
-- Assumes nothing.
use Prim.Native.Nat.{ℕ, ◌-◌, ◌≤◌, ◌<◌, zero-le}
use mathlib.Core.Bool.{false}
use mathlib.Core.List.{List}
use mathlib.Core.Logic.{⊎_elim}
use mathlib.Core.Path.{◌≡◌, ap, ◌∙◌}
use native.Mathlib.Omega.{arith}
use borrow.Author.Tests.{ltb-true, ltb-false}
use lib.Dec.{ltb}
use lib.ListN.{get_or, replicate, get_or-replicate, length-replicate}
use Rattle.laws.proofs.Choice.{cases}
use Rattle.laws.proofs.Search.{first-most, first-before}
use Rattle.laws.proofs.Stores.{sets-at, sets-beyond}
use Rattle.theory.specs.Net.{Net}
use Rattle.site.proofs.Faults.{up-to}
use Rattle.admitting.specs.Best.{best_beside}
use Rattle.bestset.specs.Code as arrays
use Rattle.admitting.proofs.Alike.{best-flows}
use Rattle.flowlist.specs.declared.Flow.{Flow}
use Rattle.admission.specs.Admit.{share_in, amount, bad_in, first_bad_in, flows_asked}
use Rattle.admission.specs.Code.{laid_first}
use Rattle.admission.proofs.Asking.{good-cell}

-- an array of the first n numbers that a rule gives, over zeros
at : (g : ℕ → ℕ) (n : ℕ) → n ≤ 16 → (k : ℕ) → k < n → get_or (laid_first g n) k 0 ≡ g k
at g n few k h = sets-at g n (replicate 16 0) k h (omega (arith, length-replicate {A = ℕ} 16 0))

past : (g : ℕ → ℕ) (n k : ℕ) → n ≤ k → k < 16 → get_or (laid_first g n) k 0 ≡ 0
past g n k h m = sets-beyond g n (replicate 16 0) k h ∙ get_or-replicate {A = ℕ} 16 k 0 0 m

module _ (cells slots : ℕ) (f : ℕ → Flow) (n : ℕ) (few : n ≤ 16) (all : n ≤ first_bad_in cells slots f n) where
  -- no flow is refused
  all-good : first_bad_in cells slots f n ≡ n
  unfolding first_bad_in
  all-good = omega (arith, first-most (λ k. bad_in cells slots (f k)) 0 n zero-le)

  good-at : (k : ℕ) → k < n → bad_in cells slots (f k) ≡ false
  unfolding first_bad_in
  good-at k h = first-before (λ k. bad_in cells slots (f k)) 0 n k zero-le (omega arith)

  -- what is laid up to the first that is refused is laid for all
  pub laid-all : (g : ℕ → ℕ) (bad : ℕ) (l : List ℕ) → bad ≡ first_bad_in cells slots f n → l ≡ laid_first g bad → l ≡ laid_first g n
  laid-all g bad l e h = h ∙ ap (laid_first g) (e ∙ all-good)

  pub inside : 0 < cells → (k : ℕ) → k < 16 → get_or (laid_first (λ k. (f k).cell - 1) n) k 0 < cells
  inside some k l =
      ⊎_elim
      (λ h.
      let named = up-to cells (f k).cell (good-cell cells slots (f k) (good-at k (ltb-true k n h))) in
      omega (arith, at (λ k. (f k).cell - 1) n few k (ltb-true k n h), named))
      (λ h. omega (arith, past (λ k. (f k).cell - 1) n k (ltb-false k n h) l)) (cases (ltb k n))

  pub same-best : (start : Net)
      → best_beside start (arrays.flows_in (laid_first (λ k. (f k).cell - 1) n) (laid_first (λ k. amount (share_in slots (f k))) n)
      (laid_first (λ k. (f k).value) n) n)
      ≡ best_beside start (flows_asked slots f n)
  same-best start =
      best-flows start n _ (λ k. (f k).cell - 1) _ (λ k. amount (share_in slots (f k))) _ (λ k. (f k).value)
      (at (λ k. (f k).cell - 1) n few) (at (λ k. amount (share_in slots (f k))) n few) (at (λ k. (f k).value) n few)
