-- `reachpairs::row_len` meets its contract: a row's pairs take two bytes for each of its bits, of which there are at most 32. Assumes nothing.
use Prim.Native.Nat.{◌^◌, ◌≤◌, ◌<◌}
use mathlib.Core.Path.{sym}
use native.Mathlib.Omega.{arith}
use lib.Count.{ones, ones-le}
use Rattle.reachpairs.proofs.RowLaws.{row-length}
use Rattle.reachpairs.proofs.row_len.Goals as goal

pub overflow_cast-result : goal.overflow_cast-result
overflow_cast-result c =
    let fits : c.args.row < 2 ^ 32 = omega arith in
    let few : ones c.args.row ≤ 32 = ones-le 32 c.args.row fits in
    omega (arith, few)

pub overflow_mul-result : goal.overflow_mul-result
overflow_mul-result c =
    let fits : c.args.row < 2 ^ 32 = omega arith in
    let few : ones c.args.row ≤ 32 = ones-le 32 c.args.row fits in
    omega (arith, few)

pub returns : goal.returns
returns c =
    let fits : c.args.row < 2 ^ 32 = omega arith in
    sym (row-length c.args.row c.args.a fits)
