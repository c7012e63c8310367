-- `checker::mark_clashes` meets its contract: before cell a, the cells from a on are joined and marked. Assumes nothing.
use Rattle.std.specs.Prelude.{◌≡◌, ◌+◌}
use Rattle.std.proofs.lemmas.List.Edits.{sets}
use Rattle.laws.specs.Part.{list_of}
use Rattle.theory.specs.Greedy.{reserved}
use Rattle.words.specs.Words.{word_from}
use Rattle.checker.proofs.Marks.{MarksFrom}
use Rattle.checker.proofs.mark_clashes.Given as goal

abbrev pub invariant-loop-a : goal.invariant-loop-a
invariant-loop-a l = (l.words ≡ sets l.initial.words 0 (list_of (λ k. word_from l.a l.cells (reserved l.n l.table) (l.from + k)) l.m))
    × MarksFrom l.cells l.n l.clash l.table l.from l.m l.a l.marks
