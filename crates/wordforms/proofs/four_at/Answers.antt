-- `wordforms::four_at` meets its contract: the word of four cells is the sum of their weights. Assumes nothing.
use Prim.Native.Nat.{◌+◌, ◌≤◌}
use native.Mathlib.Omega.{arith}
use Rattle.wordforms.proofs.Eights.{four-most, four-rows}
use Rattle.wordforms.proofs.four_at.Goals as goal

pub overflow_add-result : goal.overflow_add-result
overflow_add-result c =
    let small : c.bits_if-a.result + c.bits_if-b.result + c.bits_if-c.result + c.bits_if-d.result ≤ 15 = let a = c.args in
    four-most a.table.now a.k a.n _ _ _ _ c.bits_if-a.ensures.0
    c.bits_if-b.ensures.0 c.bits_if-c.ensures.0 c.bits_if-d.ensures.0 in
    omega (arith, small)

pub overflow_add-result-2 : goal.overflow_add-result-2
overflow_add-result-2 c =
    let small : c.bits_if-a.result + c.bits_if-b.result + c.bits_if-c.result + c.bits_if-d.result ≤ 15 = let a = c.args in
    four-most a.table.now a.k a.n _ _ _ _ c.bits_if-a.ensures.0
    c.bits_if-b.ensures.0 c.bits_if-c.ensures.0 c.bits_if-d.ensures.0 in
    omega (arith, small)

pub overflow_add-result-3 : goal.overflow_add-result-3
overflow_add-result-3 c =
    let small : c.bits_if-a.result + c.bits_if-b.result + c.bits_if-c.result + c.bits_if-d.result ≤ 15 = let a = c.args in
    four-most a.table.now a.k a.n _ _ _ _ c.bits_if-a.ensures.0
    c.bits_if-b.ensures.0 c.bits_if-c.ensures.0 c.bits_if-d.ensures.0 in
    omega (arith, small)

pub returns : goal.returns
returns c = let a = c.args in
    four-rows a.table.now a.k a.n _ _ _ _ c.bits_if-a.ensures.0
    c.bits_if-b.ensures.0 c.bits_if-c.ensures.0 c.bits_if-d.ensures.0
