-- `say_changes::put_changes` meets its contract: before channel f, the text of the channels below it is put. Assumes nothing.
use Rattle.std.specs.Prelude.{◌*◌}
use Rattle.phrases.specs.Put.{Put}
use Rattle.say_changes.specs.Said.{slot_said}
use Rattle.say_changes.proofs.put_changes.Given as goal

abbrev pub invariant-loop-f : goal.invariant-loop-f
invariant-loop-f l = Put l.initial.out l.at (slot_said l.old l.new l.from l.cell l.slot l.f) (400 * l.f) l.out l.next
