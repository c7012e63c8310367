-- `numberrows::highest_fit` meets its contract: the search that is left gives the answer. Assumes nothing.
use Rattle.std.specs.Prelude.{◌≡◌}
use Rattle.renumbering.specs.Numbering.{last}
use Rattle.numberrows.specs.Words.{fit_in}
use Rattle.numberrows.proofs.highest_fit.Given as goal

abbrev pub invariant-loop-i : goal.invariant-loop-i
invariant-loop-i l = last (fit_in l.rows l.left) l.cells ≡ last (fit_in l.rows l.left) l.i
