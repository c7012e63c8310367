-- `quoting::put_doubled` meets its contract: before a byte, those that stand before it are put, each quote twice. Assumes nothing.
use Rattle.std.specs.Prelude.{◌*◌, take}
use Rattle.phrases.specs.Put.{Put}
use Rattle.quoting.specs.Names.{doubled}
use Rattle.quoting.proofs.put_doubled.Given as goal

abbrev pub invariant-loop-byte : goal.invariant-loop-byte
invariant-loop-byte l = Put l.initial.out l.at (doubled (take l.byte-index l.name)) (2 * l.byte-index) l.out l.next
