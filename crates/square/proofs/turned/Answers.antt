-- `square::turned` meets its contract: what five stages leave is the square turned over, since each mask fits its stage and the stages turn the places.
-- Assumes nothing.
use mathlib.Core.Path.{refl}
use Rattle.laws.specs.Sum.{any}
use Rattle.square.proofs.Stages.{five-turned}
use Rattle.square.proofs.turned.Goals as goal

pub returns : goal.returns
unfolding any
returns c = five-turned _ _ _ _ _ _ _ _ _ _ _ _ _ _ _ _ c.stage.ensures c.stage-2.ensures c.stage-3.ensures c.stage-4.ensures c.stage-5.ensures refl
    refl refl refl refl refl
