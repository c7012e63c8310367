-- `say_range::bend` meets its contract: no number of it is large. Assumes nothing.
use Prim.Native.Nat.{ℕ, ◌+◌, ◌*◌, ◌/◌, ◌≤◌}
use native.Mathlib.Nat.{div-le_self}
use native.Mathlib.Omega.{arith}
use Rattle.drawing.specs.Range.{bend_of}
use Rattle.say_range.proofs.bend.Goals as goal

pub overflow_mul-result : goal.overflow_mul-result
overflow_mul-result c =
    let far-few : c.abs_diff-far.result ≤ 32 = omega (arith, c.abs_diff-far.ensures, c.requires.1, c.requires.2, c.requires.0.cells_most) in
    omega (arith, far-few)

pub overflow_add-result : goal.overflow_add-result
overflow_add-result c =
    let far-few : c.abs_diff-far.result ≤ 32 = omega (arith, c.abs_diff-far.ensures, c.requires.1, c.requires.2, c.requires.0.cells_most) in
    let eighth-few : c.args.site.cells / 8 ≤ 32 = omega (arith, div-le_self c.args.site.cells 8, c.requires.0.cells_most) in
    omega (arith, far-few, eighth-few)

pub overflow_add-result-2 : goal.overflow_add-result-2
overflow_add-result-2 c =
    let far-few : c.abs_diff-far.result ≤ 32 = omega (arith, c.abs_diff-far.ensures, c.requires.1, c.requires.2, c.requires.0.cells_most) in
    let eighth-few : c.args.site.cells / 8 ≤ 32 = omega (arith, div-le_self c.args.site.cells 8, c.requires.0.cells_most) in
    omega (arith, far-few, eighth-few)

pub overflow_add-result-3 : goal.overflow_add-result-3
overflow_add-result-3 c =
    let far-few : c.abs_diff-far.result ≤ 32 = omega (arith, c.abs_diff-far.ensures, c.requires.1, c.requires.2, c.requires.0.cells_most) in
    let n : ℕ = 1 + (c.abs_diff-far.result + c.args.site.cells / 8) in
    omega (arith, far-few, div-le_self (200 * c.abs_diff-far.result) n)

pub returns : goal.returns
unfolding bend_of
returns c = rw c.abs_diff-far.ensures
