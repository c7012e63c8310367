-- `say_audit::last_byte` meets its contract: a case for each way out. Assumes nothing.
use Prim.Native.Nat.{◌≤◌}
use native.Mathlib.Omega.{arith}
use borrow.Author.Tests.{lt-ltb, le-ltb}
use Rattle.say_audit.specs.Said.{last_byte}
use Rattle.say_audit.proofs.last_byte.Goals as goal

pub returns-then-at-end : goal.returns-then-at-end
unfolding last_byte
returns-then-at-end c = let a = c.args in (rw (lt-ltb a.at a.end c.if-at-end.true), omega arith)

pub returns : goal.returns
unfolding last_byte
returns c = let a = c.args in
    let h : a.end ≤ a.at = omega (arith, c.if-at-end.false) in
    (rw (le-ltb a.at a.end h), c.requires)
