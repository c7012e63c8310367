-- `packing::weight_at` meets its contract: a case for each way out. Assumes nothing.
use mathlib.Core.Path.{◌≡◌, ◌∙◌}
use Prim.Native.Nat.{◌*◌, ◌%◌, ◌^◌}
use native.Mathlib.Nat.{one-mul}
use native.Mathlib.Omega.{arith}
use lib.Dec.{lit<}
use lib.Pow.{shl_exact}
use borrow.Author.Tests.{eq-eqb, ne_eqb}
use Rattle.packing.proofs.weight_at.Goals as goal

pub returns-then-byte-eq1 : goal.returns-then-byte-eq1
returns-then-byte-eq1 c =
    let shifted : 1 * 2 ^ c.args.b % 2 ^ 64 ≡ 2 ^ c.args.b = shl_exact 1 c.args.b 64 (lit< tt) (omega arith) ∙ one-mul _ in
    rw (eq-eqb c.args.byte 1 c.if-byte-eq1.true) shifted

pub returns : goal.returns
returns c = rw (ne_eqb c.args.byte 1 c.if-byte-eq1.false)
