-- `shortrows::spread` meets its contract: by all sixteen numbers of four bits. Assumes nothing.
use mathlib.Core.Path.{refl}
use Rattle.laws.specs.Sum.{any}
use Rattle.shortrows.proofs.Bytes.{spread-four}
use Rattle.shortrows.proofs.spread.Goals as goal

pub returns : goal.returns
unfolding any
returns c = spread-four _ _ refl c.args.x c.requires
