-- `rows::lay_mask` meets its contract: before position p, those below it are the mask's. Assumes nothing.
use mathlib.Core.Path.{◌≡◌}
use Prim.Native.Nat.{◌≤◌}
use lib.ListN.{length, take}
use Rattle.rows.proofs.lay_mask.Given as goal

abbrev pub invariant-loop-p : goal.invariant-loop-p
invariant-loop-p l = (l.p ≤ l.p-end) × (length l.row ≡ l.p-end) × (l.p-end ≡ length l.initial.row) × (take l.p l.row ≡ take l.p l.mask)
