-- `resize::first_gone` meets its contract: a search, whose invariant says that the search that is left gives the answer. Assumes nothing.
use Rattle.std.specs.Prelude.{◌≡◌}
use Rattle.laws.specs.Search.{first}
use Rattle.resize.specs.Sizes.{gone_at}
use Rattle.resize.proofs.first_gone.Given as goal

abbrev pub invariant-loop-k : goal.invariant-loop-k
invariant-loop-k l = first (gone_at l.set l.from l.slots l.channels) 0 2048 ≡ first (gone_at l.set l.from l.slots l.channels) l.k 2048
