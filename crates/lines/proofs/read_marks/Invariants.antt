-- `lines::read_marks` meets its contract: the row of the marks from 4 i on, which stand there; four marks before them are four bits below. Where some do not
-- stand there, not all do. Assumes nothing.
use Rattle.std.specs.Prelude.{◌≡◌, ◌-◌, ◌*◌, drop, true}
use Rattle.lines.specs.Match.{starts}
use Rattle.lines.specs.Format.{marks}
use Rattle.lines.specs.Content.{mark_of_line, weigh}
use Rattle.lines.proofs.read_marks.Given as goal

abbrev pub invariant-loop-i : goal.invariant-loop-i
invariant-loop-i l = (l.row ≡ weigh (mark_of_line (drop l.at l.s)) (4 * l.i) (l.n - 4 * l.i))
    × (starts (marks (mark_of_line (drop l.at l.s)) (4 * l.i) (l.n - 4 * l.i)) (drop (2 * (4 * l.i)) (drop l.at l.s)) ≡ true)
