-- `numberrows::moved_bit` meets its contract: a case for each. Assumes nothing.
use mathlib.Core.Path.{◌≡◌, refl, ◌∙◌}
use mathlib.Core.Bool.{true, false}
use native.Mathlib.Omega.{arith}
use native.Mathlib.Nat.{one-mul}
use lib.Dec.{lit<}
use lib.Pow.{shl_exact}
use borrow.Author.Tests.{eq-eqb, ne_eqb}
use Rattle.laws.specs.Bits.{bit_at}
use Rattle.numberrows.proofs.moved_bit.Goals as goal

pub returns-then-row-from-eq1 : goal.returns-then-row-from-eq1
returns-then-row-from-eq1 c = let a = c.args in
    let e : bit_at a.row a.from ≡ true = eq-eqb _ 1 c.if-row-from-eq1.true in
    rw e (shl_exact 1 a.to 32 (lit< tt) (omega arith) ∙ one-mul _)

pub returns : goal.returns
returns c = let a = c.args in
    let e : bit_at a.row a.from ≡ false = ne_eqb _ 1 c.if-row-from-eq1.false in
    rw e refl
