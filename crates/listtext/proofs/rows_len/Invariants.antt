-- `listtext::rows_len` meets its contract: before cell line i, the lines below it are counted. Assumes nothing.
use Prim.Native.Nat.{◌*◌, ◌≤◌}
use mathlib.Core.Path.{◌≡◌}
use lib.ListN.{length}
use Rattle.listhead.specs.Listing.{cell_lines}
use Rattle.listtext.proofs.rows_len.Given as goal

abbrev pub invariant-loop-i : goal.invariant-loop-i
invariant-loop-i l = (l.n ≡ length (cell_lines l.channels l.width l.table 0 l.i)) ×
    (l.n ≤ 24576 * l.i)
