-- `blocks::lowest_place` meets its contract: a search: what is left gives the answer. Assumes nothing.
use mathlib.Core.Path.{◌≡◌}
use Rattle.laws.specs.Search.{first}
use Rattle.blocks.specs.Order.{placed}
use Rattle.blocks.proofs.lowest_place.Given as goal

abbrev pub invariant-loop-k : goal.invariant-loop-k
invariant-loop-k l = first (placed l.low l.high) 0 128 ≡ first (placed l.low l.high) l.k 128
