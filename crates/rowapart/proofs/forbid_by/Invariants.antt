-- `rowapart::forbid_by` meets its contract. At each head of the loop the row is the one handed in, marked by the first p positions of row j: before `start` and
-- from `end` on there is nothing to mark. Assumes nothing.
use Rattle.std.specs.Prelude.{◌≡◌, ◌*◌, take}
use Rattle.laws.specs.Part.{part}
use Rattle.theory.specs.Greedy.{forbid}
use Rattle.rowapart.proofs.forbid_by.Given as goal

abbrev pub invariant-loop-p : goal.invariant-loop-p
invariant-loop-p l = l.row ≡ forbid (take l.p (part (l.j * l.n) l.n l.table)) l.initial.row
