-- `chainwords::first_split` meets its contract: the invariant says that the search that is left gives the answer. Assumes nothing.
use Prim.Native.Nat.{ℕ}
use mathlib.Core.Bool.{Bool}
use mathlib.Core.List.{List}
use mathlib.Core.Path.{◌≡◌}
use lib.Dec.{ltb}
use Rattle.laws.specs.Search.{first}
use Rattle.chainwords.specs.Chain.{split_in, first_split_in}
use Rattle.chainwords.proofs.first_split.Given as goal

abbrev pub test : List ℕ → ℕ → ℕ → Bool
test rows who i = ltb (split_in rows who i) i

abbrev pub invariant-loop-i : goal.invariant-loop-i
invariant-loop-i l = first_split_in l.clash l.who l.cells ≡ first (test l.clash l.who) l.i l.cells
