-- `reachpairs::pairs_len` meets its contract. The invariant: with the bytes of the rows that are left it is the answer. Assumes nothing.
use Rattle.std.specs.Prelude.{◌≡◌, ◌+◌, ◌-◌, ◌*◌, ◌≤◌, length}
use Rattle.reachpairs.specs.Pairs.{pairs_from}
use Rattle.reachpairs.proofs.pairs_len.Given as goal

abbrev pub invariant-loop-a : goal.invariant-loop-a
invariant-loop-a l = (l.n ≤ 64 * l.a)
    × (l.n + length (pairs_from l.fn.reach (32 * l.a) (1024 - 32 * l.a)) ≡ length (pairs_from l.fn.reach 0 1024))
