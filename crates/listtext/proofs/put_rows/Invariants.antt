-- `listtext::put_rows` meets its contract: before cell line i, the lines below it are laid. Assumes nothing.
use Prim.Native.Nat.{◌+◌}
use mathlib.Core.Path.{◌≡◌}
use lib.ListN.{length}
use lib.Seq.{sets}
use Rattle.listhead.specs.Listing.{cell_lines}
use Rattle.listtext.proofs.put_rows.Given as goal

abbrev pub invariant-loop-i : goal.invariant-loop-i
invariant-loop-i l = (l.out ≡ sets l.initial.out l.at (cell_lines l.channels l.width l.table 0 l.i))
    × (l.next ≡ l.at + length (cell_lines l.channels l.width l.table 0 l.i))
