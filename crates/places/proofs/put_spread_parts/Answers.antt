-- `places::put_spread_parts` meets its contract: slot and channel, the cells and the marks are put one after the other. Assumes nothing.
use native.Mathlib.Nat.{div-le_self, mod-le}
use native.Mathlib.Omega.{arith}
use Rattle.phrases.proofs.Put.{put_both, put-wide}
use Rattle.places.specs.Places.{spread_said}
use Rattle.places.proofs.put_spread_parts.Goals as goal

pub overflow_add-slot : goal.overflow_add-slot
overflow_add-slot c = omega (arith, div-le_self c.args.k c.args.channels)

pub overflow_add-channel : goal.overflow_add-channel
overflow_add-channel c = omega (arith, mod-le c.args.k c.args.channels)

pub returns : goal.returns
unfolding spread_said
returns c = let ended = rw c.spread_marks.ensures at c.put_part.ensures in
    put-wide 696 (omega arith) (put_both _ _ c.put_part-first.ensures (put_both _ _ c.put_cells-second.ensures ended))
