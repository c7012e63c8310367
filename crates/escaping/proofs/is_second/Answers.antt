-- `escaping::is_second` meets its contract: between the two ends. Assumes nothing.
use Rattle.escaping.specs.Letters.{is_second}
use Rattle.escaping.proofs.is_second.Goals as goal

pub returns : goal.returns
unfolding is_second
returns c = rw (c.second_low.ensures, c.second_top.ensures) at c.is_between.ensures
