-- `sitefile::loads_of` meets its contract. The invariant: to store the numbers that are left of the body from i on makes the answer. Assumes nothing.
use Rattle.std.specs.Prelude.{◌≡◌, ◌*◌, drop}
use lib.Seq.{sets}
use Rattle.records.specs.Bytes.{numbers_in}
use Rattle.sitefile.proofs.loads_of.Given as goal

abbrev pub invariant-loop-i : goal.invariant-loop-i
invariant-loop-i l = sets l.loads l.i (numbers_in (drop (2 * l.i) l.body)) ≡ sets l.initial.loads 0 (numbers_in l.body)
