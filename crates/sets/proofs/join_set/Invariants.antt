-- `sets::join_set` meets its contract: before word j, that many words are stored, and the word at j is still the first one. Assumes nothing.
use mathlib.Core.Path.{◌≡◌}
use mathlib.Core.Bool.{◌||◌}
use Prim.Native.Nat.{◌-◌, ◌≤◌}
use lib.ListN.{length}
use lib.Seq.{sets}
use Rattle.sets.specs.Sets.{in_set, set_in}
use Rattle.sets.proofs.join_set.Given as goal

abbrev pub invariant-loop-j : goal.invariant-loop-j
invariant-loop-j l = (l.j ≤ l.w) × (length l.set ≡ length l.initial.set) ×
    (l.set ≡ sets l.initial.set 0 (set_in (λ k. in_set l.initial.set k || in_set l.with k) l.j))

abbrev pub decreases-loop-j : goal.decreases-loop-j
decreases-loop-j l = l.w - l.j
