-- `sheet::header_len` meets its contract: the columns that are left are what is missing. Assumes nothing.
use Prim.Native.Nat.{◌+◌, ◌-◌, ◌*◌, ◌≤◌}
use mathlib.Core.Path.{◌≡◌}
use lib.ListN.{length}
use Rattle.lines.specs.Format.{columns, header}
use Rattle.sheet.proofs.header_len.Given as goal

abbrev pub invariant-loop-k : goal.invariant-loop-k
invariant-loop-k l = (l.need + length (columns l.k (l.n - l.k)) ≡ length (header l.n)) × (l.need ≤ 11 + 6 * l.k)
