-- `rows::fill_row` meets its contract. Both loops keep `Going`: what the row will be once the rest of it is filled. Where they begin, that is the filled row.
-- What is outside the stretch that is given is as it was (`kept`). Assumes nothing.
use Rattle.std.specs.Prelude.{◌≡◌, ◌+◌, ◌*◌}
use Rattle.rows.proofs.Fill.{Going}
use Rattle.rows.proofs.fill_row.Given as goal

abbrev pub invariant-loop-channel : goal.invariant-loop-channel
invariant-loop-channel l = (l.at ≡ l._slot * l.channels + l._channel) × Going l.load l.fn.row l.at l.left l.row

abbrev pub invariant-slots : goal.invariant-slots
invariant-slots l = (l.at ≡ l._slot * l.channels) × Going l.load l.fn.row l.at l.left l.row
