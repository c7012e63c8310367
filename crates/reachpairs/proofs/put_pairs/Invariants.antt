-- `reachpairs::put_pairs` meets its contract. The invariant: the bytes of the rows that are left end at `end`, and to store them from k on makes the answer.
-- Where no bytes are left, it is made. Assumes nothing.
use Rattle.std.specs.Prelude.{◌≡◌, ◌+◌, ◌-◌, ◌*◌, length}
use lib.Seq.{sets}
use Rattle.reachpairs.specs.Pairs.{pairs_from}
use Rattle.reachpairs.proofs.put_pairs.Given as goal

abbrev pub invariant-loop-a : goal.invariant-loop-a
invariant-loop-a l = (l.k + length (pairs_from l.reach (32 * l.a) (1024 - 32 * l.a)) ≡ l.end)
    × (sets l.out l.k (pairs_from l.reach (32 * l.a) (1024 - 32 * l.a)) ≡ sets l.initial.out l.at (pairs_from l.reach 0 1024))
