-- `planbits::unpack_rest` meets its contract. The invariant: to store the bits that are left from k on makes the table. Assumes nothing.
use Rattle.std.specs.Prelude.{◌≡◌, ◌-◌}
use lib.Seq.{sets}
use Rattle.planbits.specs.Bits.{bits_from}
use Rattle.planbits.proofs.unpack_rest.Given as goal

abbrev pub invariant-loop-k : goal.invariant-loop-k
invariant-loop-k l = sets l.table l.k (bits_from l.body l.k (l.n - l.k)) ≡ sets l.initial.table l.from (bits_from l.body l.from (l.n - l.from))
