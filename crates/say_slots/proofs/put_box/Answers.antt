-- `say_slots::put_box` meets its contract: it is as wide as all slots. Assumes nothing.
use Prim.Native.Nat.{◌≤◌}
use native.Mathlib.Nat.{mul-le-mul}
use native.Mathlib.Omega.{arith}
use Rattle.drawing.proofs.Places.{wide-most}
use Rattle.say_slots.proofs.put_box.Goals as goal

pub overflow_mul-slots : goal.overflow_mul-slots
overflow_mul-slots c = let few : c.slot_wide-wide.result ≤ 416 = omega (arith, c.slot_wide-wide.ensures, wide-most c.args.site) in
    omega (arith, mul-le-mul c.requires.0.slots_most few)

pub returns : goal.returns
returns c = rw c.slot_wide-wide.ensures at c.put_frame.ensures
