-- `say_slots::down` meets its contract: no number of it is large. Assumes nothing.
use Prim.Native.Nat.{◌+◌, ◌*◌, ◌≤◌}
use native.Mathlib.Nat.{mul-le-mul}
use native.Mathlib.Omega.{arith}
use Rattle.drawing.proofs.Places.{high-most}
use Rattle.say_slots.proofs.down.Goals as goal

pub overflow_mul-step : goal.overflow_mul-step
overflow_mul-step c =
    let high-few : c.args.high ≤ 48 = omega (arith, c.requires.1, high-most c.args.site) in
    let band-few : c.args.site.channels * c.args.high ≤ 768 = mul-le-mul c.requires.0.channels_most high-few in
    omega (arith, band-few)

pub overflow_add-step : goal.overflow_add-step
overflow_add-step c =
    let high-few : c.args.high ≤ 48 = omega (arith, c.requires.1, high-most c.args.site) in
    let band-few : c.args.site.channels * c.args.high ≤ 768 = mul-le-mul c.requires.0.channels_most high-few in
    omega (arith, band-few)

pub overflow_mul-result : goal.overflow_mul-result
overflow_mul-result c =
    let high-few : c.args.high ≤ 48 = omega (arith, c.requires.1, high-most c.args.site) in
    let band-few : c.args.site.channels * c.args.high ≤ 768 = mul-le-mul c.requires.0.channels_most high-few in
    let bands-few : c.args.i * (c.args.site.channels * c.args.high + 12) ≤ 31 * 780 = let i-few : c.args.i ≤ 31 = omega
    (arith, c.requires.2, c.requires.0.cells_most) in
    let step : c.args.site.channels * c.args.high + 12 ≤ 780 = omega (arith, band-few) in
    mul-le-mul i-few step in
    omega (arith, bands-few)

pub overflow_mul-result-2 : goal.overflow_mul-result-2
overflow_mul-result-2 c =
    let high-few : c.args.high ≤ 48 = omega (arith, c.requires.1, high-most c.args.site) in
    let rows_few : c.args.channel * c.args.high ≤ 16 * 48 = let few : c.args.channel ≤ 16 = omega
    (arith, c.requires.3, c.requires.0.channels_most) in mul-le-mul few high-few in
    omega (arith, rows_few)

pub overflow_add-result : goal.overflow_add-result
overflow_add-result c =
    let high-few : c.args.high ≤ 48 = omega (arith, c.requires.1, high-most c.args.site) in
    let band-few : c.args.site.channels * c.args.high ≤ 768 = mul-le-mul c.requires.0.channels_most high-few in
    let bands-few : c.args.i * (c.args.site.channels * c.args.high + 12) ≤ 31 * 780 = let i-few : c.args.i ≤ 31 = omega
    (arith, c.requires.2, c.requires.0.cells_most) in
    let step : c.args.site.channels * c.args.high + 12 ≤ 780 = omega (arith, band-few) in
    mul-le-mul i-few step in
    let rows_few : c.args.channel * c.args.high ≤ 16 * 48 = let few : c.args.channel ≤ 16 = omega
    (arith, c.requires.3, c.requires.0.channels_most) in mul-le-mul few high-few in
    omega (arith, bands-few, rows_few)

pub overflow_add-result-2 : goal.overflow_add-result-2
overflow_add-result-2 c =
    let high-few : c.args.high ≤ 48 = omega (arith, c.requires.1, high-most c.args.site) in
    let band-few : c.args.site.channels * c.args.high ≤ 768 = mul-le-mul c.requires.0.channels_most high-few in
    let bands-few : c.args.i * (c.args.site.channels * c.args.high + 12) ≤ 31 * 780 = let i-few : c.args.i ≤ 31 = omega
    (arith, c.requires.2, c.requires.0.cells_most) in
    let step : c.args.site.channels * c.args.high + 12 ≤ 780 = omega (arith, band-few) in
    mul-le-mul i-few step in
    let rows_few : c.args.channel * c.args.high ≤ 16 * 48 = let few : c.args.channel ≤ 16 = omega
    (arith, c.requires.3, c.requires.0.channels_most) in mul-le-mul few high-few in
    omega (arith, bands-few, rows_few)

pub returns : goal.returns
returns c = rw c.requires.1
