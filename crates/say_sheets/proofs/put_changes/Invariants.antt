-- `say_sheets::put_changes` meets its contract: before a kind, the lines of the kinds before it are put. Assumes nothing.
use Prim.Native.Nat.{◌*◌}
use Rattle.phrases.specs.Put.{Put}
use Rattle.say_sheets.specs.Said.{tidy_changes_said}
use Rattle.say_sheets.proofs.put_changes.Given as goal

abbrev pub invariant-loop-done : goal.invariant-loop-done
invariant-loop-done l = Put l.initial.out l.at (tidy_changes_said l.sheet l.done) (1000 * l.done) l.out l.next
