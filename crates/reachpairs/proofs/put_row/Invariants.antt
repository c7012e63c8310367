-- `reachpairs::put_row` meets its contract. The invariant: to store the pairs of the bits that are left from k on makes the answer.
-- Each turn clears the lowest bit that is left, so the loop ends. Assumes nothing.
use Prim.Native.Nat.{ℕ, ◌+◌, ◌*◌, ◌^◌, ◌<◌}
use mathlib.Core.Path.{◌≡◌}
use mathlib.Core.List.{List}
use lib.ListN.{length}
use lib.Seq.{sets}
use Rattle.reachpairs.specs.Loop.{row_from}
use Rattle.reachpairs.proofs.put_row.Given as goal

pub record Inv (out₀ : List ℕ) (at row a : ℕ) (out : List ℕ) (k left : ℕ) : Type 0 where
  pub kept : length out ≡ length out₀
  pub fits : left < 2 ^ 32
  pub ends : k + length (row_from left (32 * a) 32) ≡ at + length (row_from row (32 * a) 32)
  pub makes : sets out k (row_from left (32 * a) 32) ≡ sets out₀ at (row_from row (32 * a) 32)

abbrev pub invariant-loop-left : goal.invariant-loop-left
invariant-loop-left l = Inv l.initial.out l.at l.row l.a l.out l.k l.left

abbrev pub decreases-loop-left : goal.decreases-loop-left
decreases-loop-left l = l.left
