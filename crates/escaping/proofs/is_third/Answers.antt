-- `escaping::is_third` meets its contract: between the two ends. Assumes nothing.
use Rattle.escaping.specs.Letters.{is_third}
use Rattle.escaping.proofs.is_third.Goals as goal

pub returns : goal.returns
unfolding is_third
returns c = rw c.third_top.ensures at c.is_between.ensures
