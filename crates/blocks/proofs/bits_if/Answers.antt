-- `blocks::bits_if` meets its contract: a case for each way out. Assumes nothing.
use mathlib.Core.Path.{◌≡◌}
use native.Mathlib.Omega.{arith}
use borrow.Author.Tests.{eq-eqb, ne_eqb}
use Rattle.blocks.proofs.bits_if.Goals as goal

pub returns-then-byte-eq1 : goal.returns-then-byte-eq1
returns-then-byte-eq1 c = let h : c.args.byte ≡ 1 = omega (arith, c.if-byte-eq1.true) in (rw (eq-eqb _ _ h), omega arith)

pub returns : goal.returns
returns c = let h : c.args.byte ≡ 1 → ⊥ = λ e. omega (arith, c.if-byte-eq1.false) in (rw (ne_eqb _ _ h), omega arith)
