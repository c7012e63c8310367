-- `numberrows::fits` meets its contract: what a cell's row shares with those left is what is near to it. Assumes nothing.
use mathlib.Core.Path.{sym, ◌∙◌}
use Rattle.numberrows.specs.Words.{fit_in}
use Rattle.numberrows.proofs.fits.Goals as goal

pub returns-then-has : goal.returns-then-has
unfolding fit_in
returns-then-has c = simp (sym c.has.ensures ∙ c.if-has.true) c.all_clash.ensures

pub returns : goal.returns
unfolding fit_in
returns c = simp (sym c.has.ensures ∙ c.if-has.false)
