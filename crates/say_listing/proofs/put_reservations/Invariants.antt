-- `say_listing::put_reservations` meets its contract: before position p, the reservations below it are put. Assumes nothing.
use Rattle.std.specs.Prelude.{◌*◌}
use Rattle.phrases.specs.Put.{Put}
use Rattle.say_listing.specs.Lines.{reservations}
use Rattle.say_listing.proofs.put_reservations.Given as goal

abbrev pub invariant-loop-p : goal.invariant-loop-p
invariant-loop-p l = Put l.initial.out l.at (reservations l.channels l.row l.p) (10 * l.p) l.out l.next
