-- `sitefile::put_loads` meets its contract. The invariant: to store the loads that are left makes the answer. Assumes nothing.
use Rattle.std.specs.Prelude.{◌≡◌, ◌+◌, ◌*◌, take, drop}
use lib.Seq.{sets}
use Rattle.records.specs.Bytes.{two_bytes_each}
use Rattle.sitefile.proofs.put_loads.Given as goal

abbrev pub invariant-loop-i : goal.invariant-loop-i
invariant-loop-i l =
    sets l.out (l.at + 2 * l.i) (two_bytes_each (drop l.i (take l.n l.loads))) ≡ sets l.initial.out l.at (two_bytes_each (take l.n l.loads))
