-- `loads::loaded_in` meets its contract: before cell i, the word of the cells below i that are loaded. Assumes nothing.
use mathlib.Core.Bool.{Bool}
use mathlib.Core.List.{List}
use mathlib.Core.Path.{◌≡◌}
use Prim.Native.Nat.{ℕ, ◌-◌, ◌≤◌}
use lib.Dec.{ltb}
use lib.ListN.{get_or}
use Rattle.laws.specs.Bits.{word_of}
use Rattle.loads.proofs.loaded_in.Given as goal

abbrev pub has : List ℕ → ℕ → Bool
has loads i = ltb 0 (get_or loads i 0)

abbrev pub invariant-loop-i : goal.invariant-loop-i
invariant-loop-i l = (l.i ≤ l.cells) × (l.word ≡ word_of (has l.loads) l.i)

abbrev pub decreases-loop-i : goal.decreases-loop-i
decreases-loop-i l = l.cells - l.i
