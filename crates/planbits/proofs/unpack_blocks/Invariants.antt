-- `planbits::unpack_blocks` meets its contract. The invariant: to store the bits that are left from block j on makes the table. Assumes nothing.
use Rattle.std.specs.Prelude.{◌≡◌, ◌-◌, ◌*◌}
use lib.Seq.{sets}
use Rattle.planbits.specs.Bits.{bits_from}
use Rattle.planbits.proofs.unpack_blocks.Given as goal

abbrev pub invariant-loop-j : goal.invariant-loop-j
invariant-loop-j l = sets l.table (256 * l.j) (bits_from l.body (256 * l.j) (256 * (l.b - l.j))) ≡ sets l.initial.table 0 (bits_from l.body 0 (256 * l.b))
