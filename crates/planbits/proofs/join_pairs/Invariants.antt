-- `planbits::join_pairs` meets its contract. The invariant: the numbers before i are joined. Assumes nothing.
use Rattle.std.specs.Prelude.{◌^◌}
use Rattle.planbits.specs.Block.{Joined}
use Rattle.planbits.proofs.join_pairs.Given as goal

abbrev pub invariant-loop-i : goal.invariant-loop-i
invariant-loop-i l = Joined (2 ^ l.c) l.i l.pairs l.out
