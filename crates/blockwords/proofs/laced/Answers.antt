-- `blockwords::laced` meets its contract: each mask fits its trade, and the two trades lay the bytes by turns. Both are computed. Assumes nothing.
use mathlib.Core.Path.{refl}
use Prim.Native.Nat.{◌<◌, ◌^◌}
use Rattle.laws.specs.Sum.{any}
use Rattle.blockwords.specs.Plain.{laced_from}
use Rattle.blockwords.proofs.Trades.{two-trades}
use borrow.Author.Rules.{rules}
use Rattle.blockwords.proofs.laced.Goals as goal

pub returns : goal.returns
unfolding any
returns c = let fits : c.trade.result < 2 ^ 64 = search rules in
    two-trades _ _ _ _ refl refl _ _ _ c.trade-a.ensures c.trade.ensures laced_from fits refl
