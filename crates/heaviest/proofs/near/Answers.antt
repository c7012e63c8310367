-- `heaviest::near` meets its contract. Assumes nothing.
use mathlib.Core.Path.{refl}
use Rattle.heaviest.proofs.near.Goals as goal

pub returns : goal.returns
returns c = refl
