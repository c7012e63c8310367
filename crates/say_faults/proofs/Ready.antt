-- What a table that can be judged has: its site has no fault, so its sizes are in range, and every row of it is there. Assumes nothing.
use mathlib.Core.Path.{◌≡◌}
use mathlib.Core.Bool.{true}
use mathlib.Core.List.{List}
use Prim.Native.Nat.{ℕ, zero, suc, ◌+◌, ◌*◌, ◌≤◌, ◌<◌}
use native.Mathlib.Nat.{mul-suc}
use native.Mathlib.Omega.{arith}
use lib.Dec.{leb}
use lib.ListN.{length}
use borrow.Author.Tests.{leb-true}
use Rattle.std.specs.Prelude.{Ok}
use Rattle.laws.specs.Sum.{sum, count}
use Rattle.laws.proofs.Choice.{both}
use Rattle.laws.proofs.Grid.{row_before}
use Rattle.laws.proofs.Sums.{count_most}
use Rattle.site.specs.Record.{positions, size, fault_of, is_fine}
use Rattle.site.specs.declared.Site.{Site}
use Rattle.site.proofs.Faults.{fine-is, fine-sized, few-positions, few_bytes, Sized}
use Rattle.say_faults.specs.Said.{judgeable, shown_in, placed_at}
use Rattle.say_faults.specs.declared.Piece.TheVariants.{AtBlocked, Clashing}

-- so many numbers of at most m
pub sum-most : (f : ℕ → ℕ) (m n : ℕ) → ((k : ℕ) → f k ≤ m) → sum f n ≤ m * n
unfolding sum
sum-most f m zero h = omega arith
sum-most f m (suc n) h = omega (arith, sum-most f m n h, h n, mul-suc m n)

module _ (s : Site) (t : List ℕ) (ok : judgeable s t ≡ true) where
  pub ready-fine : fault_of s ≡ Ok tt
  unfolding judgeable
  ready-fine = fine-is (fault_of s) (both (is_fine (fault_of s)) (leb (size s) (length t)) ok).0

  pub ready-sizes : Sized s
  ready-sizes = fine-sized s ready-fine

  pub ready-few : positions s ≤ 2048
  ready-few = few-positions ready-sizes

  pub ready-row : (i : ℕ) → i < s.cells → i * positions s + positions s ≤ length t
  unfolding judgeable
  ready-row i l =
      let h : size s ≤ length t = leb-true (size s) (length t) (both (is_fine (fault_of s)) (leb (size s) (length t)) ok).1 in
      omega (arith, row_before (positions s) l)

  pub ready-most : (i : ℕ) → i < s.cells → i * positions s + positions s ≤ 65536
  ready-most i l = omega (arith, row_before (positions s) l, few_bytes ready-sizes)

  -- a position has at most one fault for each cell, and one for each two
  pub ready-placed : (k : ℕ) → placed_at s t k ≤ 1056
  ready-placed k =
      let most = ready-sizes.cells_most in
      let two = sum-most (λ a. count (shown_in s t (Clashing k a)) s.cells) 32 s.cells
      (λ a. omega (arith, count_most (shown_in s t (Clashing k a)) s.cells)) in
      omega (arith, two, count_most (shown_in s t (AtBlocked k)) s.cells)

pub ruleset judged_table = (ready-sizes, ready-few, ready-row)
