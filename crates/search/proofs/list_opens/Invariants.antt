-- `search::list_opens` meets its contract: what is listed, and what is left to list, are the open positions. Assumes nothing.
use Rattle.std.specs.Prelude.{◌-◌}
use Rattle.tries.specs.Search.{opens_from}
use Rattle.site.specs.Reach.{is_open}
use Rattle.search.proofs.Gather.{Filling}
use Rattle.search.proofs.list_opens.Given as goal

abbrev pub invariant-loop-k : goal.invariant-loop-k
invariant-loop-k l = Filling 64 (opens_from (is_open l.blocked) 0 l.n) l.count l.at (opens_from (is_open l.blocked) l.k (l.n - l.k))
