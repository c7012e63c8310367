-- `putlines::put_columns` meets its contract: what is left of the columns, stored from here on, gives the whole. Assumes nothing.
use Rattle.std.specs.Prelude.{◌-◌}
use Rattle.text.proofs.Writing.{Writing}
use Rattle.lines.specs.Format.{columns}
use Rattle.putlines.proofs.put_columns.Given as goal

abbrev pub invariant-loop-k : goal.invariant-loop-k
invariant-loop-k l = Writing l.initial.out l.at (columns 0 l.n) l.out l.p (columns l.k (l.n - l.k))
