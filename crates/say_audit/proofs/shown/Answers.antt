-- `say_audit::shown` meets its contract: a case for each way out. Assumes nothing.
use Prim.Native.Nat.{◌≤◌}
use native.Mathlib.Omega.{arith}
use borrow.Author.Tests.{lt-ltb, le-ltb, eq-eqb, ne_eqb}
use Rattle.say_audit.specs.Said.{shown_byte}
use Rattle.say_audit.proofs.shown.Goals as goal

pub returns-then-byte-lt32 : goal.returns-then-byte-lt32
unfolding shown_byte
returns-then-byte-lt32 c = simp (lt-ltb c.args.byte 32 c.if-byte-lt32.true)

pub returns-then-byte-eq127 : goal.returns-then-byte-eq127
unfolding shown_byte
returns-then-byte-eq127 c = let b = c.args.byte in
    let h : 32 ≤ b = omega (arith, c.if-byte-lt32.false) in
    simp (le-ltb b 32 h, eq-eqb b 127 c.if-byte-eq127.true)

pub returns : goal.returns
unfolding shown_byte
returns c = let b = c.args.byte in
    let h : 32 ≤ b = omega (arith, c.if-byte-lt32.false) in
    simp (le-ltb b 32 h, ne_eqb b 127 c.if-byte-eq127.false)
