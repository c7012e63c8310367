-- `blocks::lowest_place` meets its contract: a search: what is left gives the answer. Assumes nothing.
use Rattle.blocks.proofs.Places.{none-placed}
use Rattle.blocks.proofs.lowest_place.Goals as goal

pub returns-then-low-high-eq0 : goal.returns-then-low-high-eq0
returns-then-low-high-eq0 c = none-placed c.args.low c.args.high c.if-low-high-eq0.true
