-- `say_faults::clashes_at` meets its contract: before first cell a, the clashes of the cells below it are counted. Assumes nothing.
use Rattle.std.specs.Prelude.{◌≡◌}
use Rattle.laws.specs.Sum.{sum, count}
use Rattle.say_faults.specs.Said.{shown_in}
use Rattle.say_faults.specs.declared.Piece.TheVariants.{Clashing}
use Rattle.say_faults.proofs.clashes_at.Given as goal

abbrev pub invariant-loop-a : goal.invariant-loop-a
invariant-loop-a l = l.all ≡ sum (λ x. count (shown_in l.site l.table (Clashing l.k x)) l.site.cells) l.a
