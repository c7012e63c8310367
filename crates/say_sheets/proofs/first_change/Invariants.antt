-- `say_sheets::first_change` meets its contract: a search, whose invariant says that the search that is left gives the answer. Assumes nothing.
use Prim.Native.Nat.{ℕ, ◌+◌}
use mathlib.Core.Bool.{Bool, not}
use mathlib.Core.List.{List}
use mathlib.Core.Path.{◌≡◌}
use lib.Dec.{eqb}
use Rattle.laws.specs.Search.{first}
use Rattle.cleaning.specs.Clean.{changes_of}
use Rattle.say_sheets.proofs.first_change.Given as goal

abbrev pub made : List ℕ → ℕ → Bool
made s k = not (eqb (changes_of s (k + 1)).times 0)

abbrev pub invariant-loop-done : goal.invariant-loop-done
invariant-loop-done l = first (made l.sheet) 0 8 ≡ first (made l.sheet) l.done 8
