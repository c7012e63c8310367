-- `planbits::take_bits` meets its contract. The invariant: the bits before i are there. Assumes nothing.
use Rattle.planbits.specs.Block.{Runs}
use Rattle.planbits.proofs.take_bits.Given as goal

abbrev pub invariant-loop-i : goal.invariant-loop-i
invariant-loop-i l = Runs l.table l.k 1 l.i l.bits
