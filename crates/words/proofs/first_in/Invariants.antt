-- `words::first_in` meets its contract: a search: what is left gives the answer. Assumes nothing.
use mathlib.Core.Path.{◌≡◌}
use Rattle.laws.specs.Search.{first}
use Rattle.words.specs.Clashes.{clashes_in, first_in}
use Rattle.words.proofs.first_in.Given as goal

abbrev pub invariant-loop-a : goal.invariant-loop-a
invariant-loop-a l = first_in l.word l.clash l.cells ≡ first (clashes_in l.word l.clash l.cells) l.a l.cells
