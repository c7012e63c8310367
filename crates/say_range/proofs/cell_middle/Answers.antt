-- `say_range::cell_middle` meets its contract: no number of it is large. Assumes nothing.
use Prim.Native.Nat.{◌*◌, ◌≤◌}
use native.Mathlib.Nat.{mul-le-mul}
use native.Mathlib.Omega.{arith}
use Rattle.drawing.proofs.Reach.{step-most}
use Rattle.say_range.proofs.cell_middle.Goals as goal

pub overflow_mul-result : goal.overflow_mul-result
overflow_mul-result c =
    let step-few : c.cell_step-step.result ≤ 860 = omega (arith, c.cell_step-step.ensures, step-most c.args.site) in
    let far-few : c.args.i * c.cell_step-step.result ≤ 31 * 860 = let few : c.args.i ≤ 31 = omega (arith, c.requires.1, c.requires.0.cells_most) in
    mul-le-mul few step-few in
    omega (arith, far-few)

pub overflow_add-result : goal.overflow_add-result
overflow_add-result c =
    let step-few : c.cell_step-step.result ≤ 860 = omega (arith, c.cell_step-step.ensures, step-most c.args.site) in
    let far-few : c.args.i * c.cell_step-step.result ≤ 31 * 860 = let few : c.args.i ≤ 31 = omega (arith, c.requires.1, c.requires.0.cells_most) in
    mul-le-mul few step-few in
    omega (arith, far-few, step-few)

pub overflow_add-result-2 : goal.overflow_add-result-2
overflow_add-result-2 c =
    let step-few : c.cell_step-step.result ≤ 860 = omega (arith, c.cell_step-step.ensures, step-most c.args.site) in
    let far-few : c.args.i * c.cell_step-step.result ≤ 31 * 860 = let few : c.args.i ≤ 31 = omega (arith, c.requires.1, c.requires.0.cells_most) in
    mul-le-mul few step-few in
    omega (arith, far-few, step-few)

pub returns : goal.returns
returns c = rw c.cell_step-step.ensures
