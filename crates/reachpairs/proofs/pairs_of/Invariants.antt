-- `reachpairs::pairs_of` meets its contract. The invariant: to read the pairs that are left onto the rows so far makes the answer,
-- and no bit stands at next or above it. Assumes nothing.
use Rattle.std.specs.Prelude.{◌≡◌, ◌*◌, ◌≤◌, length, drop}
use Rattle.reachpairs.specs.Loop.{pairs_read}
use Rattle.reachpairs.proofs.PairLaws.{High, read_pairs}
use Rattle.reachpairs.proofs.pairs_of.Given as goal

abbrev pub invariant-loop-i : goal.invariant-loop-i
invariant-loop-i l = record {
  size : length l.reach ≡ 32;
  bound : l.next ≤ 1024;
  high : High l.next l.reach;
  left : read_pairs l.cells l.at l.next l.reach (drop (2 * l.i) l.body) ≡ pairs_read l.cells l.at l.body;
}
