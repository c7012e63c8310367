-- `planbits::last_of` meets its contract. The invariant: v is the number of the table bytes from i on. Assumes nothing.
use Rattle.std.specs.Prelude.{◌≡◌, ◌+◌, ◌-◌, ◌≤◌}
use Rattle.planbits.specs.Bits.{ones}
use Rattle.planbits.proofs.last_of.Given as goal

abbrev pub invariant-loop-i : goal.invariant-loop-i
invariant-loop-i l = (l.k ≤ l.i) × (l.v ≡ ones l.table l.i (l.k + 8 - l.i))
