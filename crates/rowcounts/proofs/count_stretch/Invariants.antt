-- `rowcounts::count_stretch` meets its contract: before position p, those below p are counted. Assumes nothing.
use mathlib.Core.Path.{◌≡◌}
use Prim.Native.Nat.{◌≤◌}
use lib.ListN.{length}
use Rattle.theory.specs.Greedy.{held}
use Rattle.rowcounts.proofs.count_stretch.Given as goal

abbrev pub invariant-loop-p : goal.invariant-loop-p
invariant-loop-p l = (l.count ≡ held l.p l.stretch) × (l.p ≤ length l.stretch)
