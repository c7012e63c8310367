-- `blockwords::turned_word` meets its contract: each mask fits its trade, and the three trades turn the places. Both are computed. Assumes nothing.
use mathlib.Core.Path.{refl}
use Prim.Native.Nat.{◌<◌, ◌^◌}
use Rattle.laws.specs.Sum.{any}
use Rattle.blockwords.specs.Plain.{turned_from}
use Rattle.blockwords.proofs.Trades.{three-trades}
use borrow.Author.Rules.{rules}
use Rattle.blockwords.proofs.turned_word.Goals as goal

pub returns : goal.returns
unfolding any
returns c = let fits : c.trade.result < 2 ^ 64 = search rules in
    three-trades _ _ _ _ refl refl _ _ _ c.trade-a.ensures c.trade-b.ensures _ _ refl _ c.trade.ensures turned_from fits refl
