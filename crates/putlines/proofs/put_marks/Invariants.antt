-- `putlines::put_marks` meets its contract: what is left of the marks, stored from here on, gives the whole. Assumes nothing.
use Rattle.std.specs.Prelude.{◌-◌}
use Rattle.text.proofs.Writing.{Writing}
use Rattle.lines.specs.Format.{bits_of, marks}
use Rattle.putlines.proofs.put_marks.Given as goal

abbrev pub invariant-loop-b : goal.invariant-loop-b
invariant-loop-b l = Writing l.initial.out l.at (marks (bits_of l.row) 0 l.n) l.out l.p (marks (bits_of l.row) l.b (l.n - l.b))
