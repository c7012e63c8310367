-- `numberrows::highest_fit` meets its contract: the search that is left gives the answer. Assumes nothing.
use Rattle.std.proofs.Common.{arith, sym, ◌∙◌}
use Rattle.renumbering.proofs.Fit.{last_found, last-missed, last-ended}
use Rattle.numberrows.specs.Words.{fit_in}
use Rattle.numberrows.proofs.highest_fit.Goals as goal

pub returns-then-fits : goal.returns-then-fits
returns-then-fits c = let args = c.args in
    omega (arith, last_found (fit_in args.rows.now args.left) c.loop-i.i c.loop-i.invariant c.loop-i-test.true (sym c.fits.ensures ∙ c.if-fits.true))

pub loop-i-preserved : goal.loop-i-preserved
loop-i-preserved c = let args = c.args in
    last-missed (fit_in args.rows.now args.left) c.loop-i.i c.loop-i.invariant c.loop-i-test.true (sym c.fits.ensures ∙ c.if-fits.false)

pub returns : goal.returns
returns c = let args = c.args in
    omega (arith, last-ended (fit_in args.rows.now args.left) c.loop-i.i c.loop-i.invariant c.loop-i-test.false)
