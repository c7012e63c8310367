-- `demands::most_demand` meets its contract: before cell i, the greatest of what the cells below i ask. Assumes nothing.
use Prim.Native.Nat.{ℕ}
use mathlib.Core.List.{List}
use mathlib.Core.Path.{◌≡◌}
use lib.ListN.{get_or}
use Rattle.laws.specs.Most.{most}
use Rattle.demands.specs.Words.{demand_counted}
use Rattle.demands.proofs.most_demand.Given as goal

abbrev pub asks : List ℕ → List ℕ → ℕ → ℕ → ℕ
asks loads clash who i = demand_counted loads (get_or clash i 0) who i

abbrev pub invariant-loop-i : goal.invariant-loop-i
invariant-loop-i l = l.greatest ≡ most (asks l.loads l.clash l.who) l.i
