-- `heaviest::bound` meets its contract: before each turn the classes so far are counted, and a turn adds at most one load. Assumes nothing.
use Rattle.std.proofs.Common.{arith}
use Rattle.heaviest.proofs.Classes.{begun, all-counted, some_left}
use Rattle.heaviest.proofs.bound.Goals as goal

pub loop-init : goal.loop-init
loop-init c = (begun c.args.clash.now c.args.loads.now c.args.word, omega arith)

pub returns-then-left-eq0-clause-bounds : goal.returns-then-left-eq0-clause-bounds
returns-then-left-eq0-clause-bounds c = all-counted c.loop.invariant.0 c.if-left-eq0.true

pub loop-preserved : goal.loop-preserved
loop-preserved c = (c.class_of-class.ensures.by_index _ _ c.loop.invariant.0, omega (arith, c.class_of-class.ensures.heavy_bound))

pub returns-clause-bounds : goal.returns-clause-bounds
returns-clause-bounds c = some_left c.loop.invariant.0 _ c.loads_of_many.ensures.0
