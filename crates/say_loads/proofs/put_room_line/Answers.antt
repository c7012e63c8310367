-- `say_loads::put_room_line` meets its contract: no number of it is large. Assumes nothing.
use Prim.Native.Nat.{◌≤◌}
use native.Mathlib.Nat.{mul-le-mul}
use native.Mathlib.Omega.{arith}
use Rattle.drawing.proofs.Reach.{step-most}
use Rattle.drawing.proofs.Loads.{scale-some, scale-room, high-within}
use Rattle.say_loads.proofs.Ready.{room-few}
use Rattle.say_loads.proofs.put_room_line.Goals as goal

pub overflow_mul-long : goal.overflow_mul-long
overflow_mul-long c = let few : c.cell_step.result ≤ 860 = omega (arith, c.cell_step.ensures, step-most c.args.site) in
    omega (arith, mul-le-mul c.requires.0.cells_most few)

pub bar_high-high-requires : goal.bar_high-high-requires
bar_high-high-requires c = (omega (arith, c.requires.2, scale-some c.args.site), omega (arith, c.requires.1, room-few c.args.site c.requires.0))

pub overflow_sub-high : goal.overflow_sub-high
overflow_sub-high c =
    let high-few : c.bar_high-high.result ≤ 150 = let some = scale-some c.args.site in
    let all = scale-room c.args.site in
    let within = high-within c.args.scale c.args.free (omega (arith, c.requires.2, some)) (omega (arith, c.requires.1, c.requires.2, all)) in
    omega (arith, c.bar_high-high.ensures, within) in
    omega (arith, high-few)

pub overflow_sub-high-2 : goal.overflow_sub-high-2
overflow_sub-high-2 c =
    let high-few : c.bar_high-high.result ≤ 150 = let some = scale-some c.args.site in
    let all = scale-room c.args.site in
    let within = high-within c.args.scale c.args.free (omega (arith, c.requires.2, some)) (omega (arith, c.requires.1, c.requires.2, all)) in
    omega (arith, c.bar_high-high.ensures, within) in
    omega (arith, high-few)

pub returns : goal.returns
returns c = rw (c.bar_high-high.ensures, c.cell_step.ensures, c.requires.1, c.requires.2) at c.put_bar_part.ensures
