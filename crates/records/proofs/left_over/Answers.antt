-- `records::left_over-law` meets its contract: only the last byte has left-over bits, and they are its bits from n % 8 on. Assumes nothing.
use Prim.Native.Nat.{◌/◌}
use mathlib.Core.Path.{sym}
use native.Mathlib.Omega.{arith}
use Rattle.records.proofs.Bits.{no-rest, some-rest}
use Rattle.records.proofs.left_over.Goals as goal

pub returns-then-b-eq0 : goal.returns-then-b-eq0
returns-then-b-eq0 c = sym (no-rest c.args.body.now c.args.n c.requires c.if-b-eq0.true)

pub returns : goal.returns
returns c = sym (some-rest c.args.body.now c.args.n c.requires c.if-b-eq0.false (omega (arith, c.shared_slice_known-1.given (c.args.n / 8))))
