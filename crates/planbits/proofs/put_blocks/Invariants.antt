-- `planbits::put_blocks` meets its contract. The invariant: to store the bytes that are left from block j on makes the output. Assumes nothing.
use Rattle.std.specs.Prelude.{◌≡◌, ◌+◌, ◌-◌, ◌*◌}
use lib.Seq.{sets}
use Rattle.planbits.specs.Bits.{packed_from}
use Rattle.planbits.proofs.put_blocks.Given as goal

abbrev pub invariant-loop-j : goal.invariant-loop-j
invariant-loop-j l =
    sets l.out (l.at + 32 * l.j) (packed_from l.table (8 * (32 * l.j)) (32 * (l.b - l.j)))
    ≡ sets l.initial.out l.at (packed_from l.table 0 (32 * l.b))
