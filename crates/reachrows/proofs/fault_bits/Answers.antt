-- `reachrows::fault_bits` meets its contract: a row past the cells or above most is handed back itself; else its own bit is what is left to be wrong.
-- Assumes nothing.
use mathlib.Core.Path.{◌≡◌, sym, ap, ap₂, ◌∙◌}
use Prim.Native.Nat.{◌*◌, ◌%◌, ◌^◌, ◌<◌}
use native.Mathlib.Omega.{arith}
use lib.Bits.{bit_and}
use lib.Pow.{pow_pos}
use Rattle.laws.proofs.Bits.{one_shl}
use Rattle.reachrows.proofs.Pass.{cells-bit, row-none, row_fine}
use Rattle.reachrows.proofs.fault_bits.Goals as goal

pub returns-then-most-own-eq0 : goal.returns-then-most-own-eq0
returns-then-most-own-eq0 c e = row-none _ _ _ e

pub returns : goal.returns
returns c e = let a = c.args in
    let own : 1 * 2 ^ a.k % 4294967296 ≡ 2 ^ a.k = one_shl a.k (omega arith) in
    let h : a.x < 2 ^ a.n = omega (arith, pow_pos a.n, c.low_bits-most.ensures) in
    let cell : a.k < a.n
    = cells-bit a.n a.k (λ z. c.if-most-own-eq0.false (ap₂ bit_and c.low_bits-most.ensures own ∙ z)) in
    row_fine a.n a.x a.k cell h (ap (bit_and a.x) (sym own) ∙ e)
