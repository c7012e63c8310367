-- `lines::last_marks` meets its contract: the last mark first, so that the row is twice itself and one bit; `ok` says that the marks from b on stand there.
-- Assumes nothing.
use Rattle.std.specs.Prelude.{◌≡◌, ◌-◌, ◌*◌, ◌≤◌, drop}
use Rattle.lines.specs.Match.{starts}
use Rattle.lines.specs.Format.{marks}
use Rattle.lines.specs.Content.{mark_of_line, weigh}
use Rattle.lines.proofs.last_marks.Given as goal

abbrev pub invariant-loop-b : goal.invariant-loop-b
invariant-loop-b l = (l.from ≤ l.b) × (l.row ≡ weigh (mark_of_line (drop l.at l.s)) l.b (l.n - l.b))
    × (l.ok ≡ starts (marks (mark_of_line (drop l.at l.s)) l.b (l.n - l.b)) (drop (2 * l.b) (drop l.at l.s)))
