-- `say_picture::tall` meets its contract: no number of it is large. Assumes nothing.
use Prim.Native.Nat.{◌+◌, ◌*◌, ◌≤◌}
use native.Mathlib.Nat.{mul-le-mul}
use native.Mathlib.Omega.{arith}
use Rattle.drawing.specs.Picture.{tall_of}
use Rattle.drawing.proofs.Places.{high-most}
use Rattle.say_picture.proofs.tall.Goals as goal

pub overflow_mul-step : goal.overflow_mul-step
overflow_mul-step c =
    let band-few : c.args.site.channels * c.channel_high-high.result ≤ 16 * 48 = let few : c.channel_high-high.result ≤ 48 = omega
    (arith, c.channel_high-high.ensures, high-most c.args.site) in
    mul-le-mul c.requires.channels_most few in
    omega (arith, band-few)

pub overflow_add-step : goal.overflow_add-step
overflow_add-step c =
    let band-few : c.args.site.channels * c.channel_high-high.result ≤ 16 * 48 = let few : c.channel_high-high.result ≤ 48 = omega
    (arith, c.channel_high-high.ensures, high-most c.args.site) in
    mul-le-mul c.requires.channels_most few in
    omega (arith, band-few)

pub overflow_mul-result : goal.overflow_mul-result
overflow_mul-result c =
    let band-few : c.args.site.channels * c.channel_high-high.result ≤ 16 * 48 = let few : c.channel_high-high.result ≤ 48 = omega
    (arith, c.channel_high-high.ensures, high-most c.args.site) in
    mul-le-mul c.requires.channels_most few in
    let bands-few : c.args.site.cells * (c.args.site.channels * c.channel_high-high.result + 12) ≤ 32 * 780 = let step : c.args.site.channels *
    c.channel_high-high.result + 12 ≤ 780 = omega (arith, band-few) in
    mul-le-mul c.requires.cells_most step in
    omega (arith, bands-few)

pub overflow_add-result : goal.overflow_add-result
overflow_add-result c =
    let band-few : c.args.site.channels * c.channel_high-high.result ≤ 16 * 48 = let few : c.channel_high-high.result ≤ 48 = omega
    (arith, c.channel_high-high.ensures, high-most c.args.site) in
    mul-le-mul c.requires.channels_most few in
    let bands-few : c.args.site.cells * (c.args.site.channels * c.channel_high-high.result + 12) ≤ 32 * 780 = let step : c.args.site.channels *
    c.channel_high-high.result + 12 ≤ 780 = omega (arith, band-few) in
    mul-le-mul c.requires.cells_most step in
    omega (arith, bands-few)

pub overflow_add-result-2 : goal.overflow_add-result-2
overflow_add-result-2 c =
    let band-few : c.args.site.channels * c.channel_high-high.result ≤ 16 * 48 = let few : c.channel_high-high.result ≤ 48 = omega
    (arith, c.channel_high-high.ensures, high-most c.args.site) in
    mul-le-mul c.requires.channels_most few in
    let bands-few : c.args.site.cells * (c.args.site.channels * c.channel_high-high.result + 12) ≤ 32 * 780 = let step : c.args.site.channels *
    c.channel_high-high.result + 12 ≤ 780 = omega (arith, band-few) in
    mul-le-mul c.requires.cells_most step in
    omega (arith, bands-few)

pub returns : goal.returns
unfolding tall_of
returns c = rw c.channel_high-high.ensures
