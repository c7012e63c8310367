-- `cleaning::clean` meets its contract: what was written so far, and what is left of the sheet cleaned from here, is the cleaned sheet. Assumes nothing.
use Prim.Native.Nat.{ℕ, ◌-◌}
use mathlib.Core.Path.{◌≡◌}
use mathlib.Core.List.{List, ◌++◌}
use lib.ListN.{length, drop}
use Rattle.cleaning.specs.Clean.{clean_from, cleaned}
use Rattle.cleaning.specs.Kept.{Kept}
use Rattle.cleaning.proofs.clean.Given as goal

abbrev pub invariant-loop-i : goal.invariant-loop-i
invariant-loop-i l = (done : List ℕ) × Kept l.initial.out 0 done l.out l.at × (done ++ clean_from l.sep l.spot (drop l.i l.s) ≡ cleaned l.s)

abbrev pub decreases-loop-i : goal.decreases-loop-i
decreases-loop-i l = length l.s - l.i
