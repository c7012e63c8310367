-- `say_tally::marks_with` meets its contract: before a mark, those before it that have the part are counted. Assumes nothing.
use Rattle.std.specs.Prelude.{◌≡◌, ◌/◌, ◌%◌, eqb, get_or}
use Rattle.laws.specs.Sum.{count}
use Rattle.say_tally.proofs.marks_with.Given as goal

abbrev pub invariant-loop-mark : goal.invariant-loop-mark
invariant-loop-mark l = l.n ≡ count (λ k. eqb (get_or l.tally k 0 / l.a % l.b) l.part) l.mark-index
