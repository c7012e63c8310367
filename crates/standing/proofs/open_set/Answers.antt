-- `standing::open_set` meets its contract: of the first positions the blocked ones are taken away. Assumes nothing.
use native.Mathlib.Omega.{arith}
use Rattle.standing.proofs.Free.{open-left}
use Rattle.standing.proofs.open_set.Goals as goal

pub returns : goal.returns
returns c = let a = c.args in
    open-left a.vacant.now c.first_positions.new.set _ a.blocked.now a.w a.n (omega arith)
    c.first_positions.ensures c.take_away.ensures
