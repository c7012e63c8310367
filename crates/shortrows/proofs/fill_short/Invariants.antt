-- `shortrows::fill_short` meets its contract. Both loops keep `Going`: what the row will be once the rest of it is filled, and that the free positions before
-- the one that has its turn are reserved. Assumes nothing.
use Rattle.std.specs.Prelude.{◌≡◌, ◌+◌, ◌*◌}
use Rattle.shortrows.proofs.Fill.{Going}
use Rattle.shortrows.proofs.fill_short.Given as goal

abbrev pub invariant-loop-channel : goal.invariant-loop-channel
invariant-loop-channel l = (l.at ≡ l._slot * l.channels + l._channel) × Going l.free l.load l.fn.row l.at l.left l.row

abbrev pub invariant-slots : goal.invariant-slots
invariant-slots l = (l.at ≡ l._slot * l.channels) × Going l.free l.load l.fn.row l.at l.left l.row
