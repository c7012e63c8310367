-- `blockwords::trade` meets its contract: the definition says what the code computes. Assumes nothing.
use mathlib.Core.Path.{refl}
use Rattle.blockwords.specs.Trade.{traded}
use Rattle.blockwords.proofs.trade.Goals as goal

pub returns : goal.returns
unfolding traded
returns c = refl
