-- `planbits::put_rest` meets its contract. The invariant: to store the bytes that are left from j on makes the output. Assumes nothing.
use Rattle.std.specs.Prelude.{◌≡◌, ◌+◌, ◌-◌, ◌*◌}
use lib.Seq.{sets}
use Rattle.planbits.specs.Bits.{packed_from}
use Rattle.planbits.proofs.put_rest.Given as goal

abbrev pub invariant-loop-j : goal.invariant-loop-j
invariant-loop-j l = sets l.out (l.at + l.j) (packed_from l.table (8 * l.j) (l.m - l.j)) ≡ sets l.initial.out (l.at + l.from)
    (packed_from l.table (8 * l.from) (l.m - l.from))
