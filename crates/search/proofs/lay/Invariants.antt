-- `search::lay` meets its contract: at each head of the loop the first k fragments are laid out. Assumes nothing.
use mathlib.Core.Path.{◌≡◌}
use Prim.Native.Nat.{◌≤◌}
use lib.ListN.{length}
use Rattle.search.specs.Hunt.{placed_of}
use Rattle.search.specs.Search.{lay_out}
use Rattle.search.proofs.lay.Given as goal

abbrev pub invariant-loop-k : goal.invariant-loop-k
invariant-loop-k l = (l.k ≤ l.k-end) × (length l.table ≡ length l.initial.table) × (l.table ≡ lay_out l.n (placed_of l.owner l.opens l.at l.k) l.initial.table)
