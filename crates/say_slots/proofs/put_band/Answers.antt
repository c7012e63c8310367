-- `say_slots::put_band` meets its contract: the box of all its channels. Assumes nothing.
use Prim.Native.Nat.{◌≤◌}
use native.Mathlib.Nat.{mul-le-mul}
use native.Mathlib.Omega.{arith}
use Rattle.drawing.proofs.Places.{high-most}
use Rattle.say_slots.proofs.put_band.Goals as goal

pub down-requires : goal.down-requires
down-requires c = (c.requires.0, c.channel_high-high.ensures, c.requires.1, omega (arith, c.requires.0.channels_some))

pub overflow_mul-channels : goal.overflow_mul-channels
overflow_mul-channels c = let few : c.channel_high-high.result ≤ 48 = omega (arith, c.channel_high-high.ensures, high-most c.args.site) in
    omega (arith, mul-le-mul c.requires.0.channels_most few)

pub returns : goal.returns
returns c = rw (c.down.ensures, c.channel_high-high.ensures) at c.put_box.ensures
