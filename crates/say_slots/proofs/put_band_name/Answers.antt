-- `say_slots::put_band_name` meets its contract: it stands at the middle of the band. Assumes nothing.
use Prim.Native.Nat.{◌*◌, ◌≤◌}
use native.Mathlib.Nat.{mul-le-mul}
use native.Mathlib.Omega.{arith}
use Rattle.drawing.proofs.Places.{high-most, down-most}
use Rattle.say_slots.proofs.put_band_name.Goals as goal

pub down-y-requires : goal.down-y-requires
down-y-requires c = (c.requires.0, c.channel_high-high.ensures, c.requires.1, omega (arith, c.requires.0.channels_some))

pub overflow_mul-channels : goal.overflow_mul-channels
overflow_mul-channels c =
    let band-few : c.args.site.channels * c.channel_high-high.result ≤ 16 * 48 = let few : c.channel_high-high.result ≤ 48 = omega
    (arith, c.channel_high-high.ensures, high-most c.args.site) in
    mul-le-mul c.requires.0.channels_most few in
    omega (arith, band-few)

pub overflow_add-channels : goal.overflow_add-channels
overflow_add-channels c =
    let band-few : c.args.site.channels * c.channel_high-high.result ≤ 16 * 48 = let few : c.channel_high-high.result ≤ 48 = omega
    (arith, c.channel_high-high.ensures, high-most c.args.site) in
    mul-le-mul c.requires.0.channels_most few in
    omega (arith, band-few)

pub overflow_add-y : goal.overflow_add-y
overflow_add-y c =
    let band-few : c.args.site.channels * c.channel_high-high.result ≤ 16 * 48 = let few : c.channel_high-high.result ≤ 48 = omega
    (arith, c.channel_high-high.ensures, high-most c.args.site) in
    mul-le-mul c.requires.0.channels_most few in
    omega (
      arith,
      band-few,
      c.down-y.ensures,
      down-most c.args.site c.requires.0 c.args.i 0 c.requires.1 (omega (arith, c.requires.0.channels_some)),
    )

pub returns : goal.returns
returns c = rw (c.down-y.ensures, c.channel_high-high.ensures) at c.put_frame.ensures
