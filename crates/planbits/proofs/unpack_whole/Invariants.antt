-- `planbits::unpack_whole` meets its contract. The invariant: to store the bits that are left from byte j on makes the table. Assumes nothing.
use Rattle.std.specs.Prelude.{◌≡◌, ◌-◌, ◌*◌}
use lib.Seq.{sets}
use Rattle.planbits.specs.Bits.{bits_from}
use Rattle.planbits.proofs.unpack_whole.Given as goal

abbrev pub invariant-loop-j : goal.invariant-loop-j
invariant-loop-j l = sets l.table (8 * l.j) (bits_from l.body (8 * l.j) (8 * (l.m - l.j))) ≡ sets l.initial.table (8 * l.from)
    (bits_from l.body (8 * l.from) (8 * (l.m - l.from)))
