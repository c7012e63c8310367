-- `say_audit::put_shown` meets its contract: before a byte, those that stand before it are put, each as it is shown. Assumes nothing.
use Rattle.phrases.specs.Put.{Put}
use Rattle.say_audit.specs.Said.{shown_to}
use Rattle.say_audit.proofs.put_shown.Given as goal

abbrev pub invariant-loop-byte : goal.invariant-loop-byte
invariant-loop-byte l = Put l.initial.out l.at (shown_to l.name l.byte-index) l.byte-index l.out l.next
