-- `clashblocks::met_above` meets its contract: a case for each way out. Assumes nothing.
use mathlib.Core.Path.{sym, ◌∙◌}
use Rattle.clashblocks.proofs.Above.{above-met, above-missed}
use Rattle.clashblocks.proofs.met_above.Goals as goal

pub returns-then-blocks_meet : goal.returns-then-blocks_meet
returns-then-blocks_meet c = let a = c.args in
    above-met a.lows.now a.highs.now a.low a.high a.row a.i a.x a.y c.upward.result c.united-above.result.low
    c.united-above.result.high c.upward.ensures c.united-above.ensures

pub returns : goal.returns
returns c = let a = c.args in
    above-missed a.lows.now a.highs.now a.low a.high a.row a.i a.x a.y c.requires.by_index
    (sym c.blocks_meet.ensures ∙ c.if-blocks_meet.false)
