-- `auditing::enough_by` meets its contract: a case for each way out. Assumes nothing.
use Prim.Native.Nat.{◌≤◌}
use borrow.Author.Tests.{lt-ltb, le-ltb}
use native.Mathlib.Omega.{arith}
use Rattle.auditing.proofs.enough_by.Goals as goal

pub returns-then-not-planned : goal.returns-then-not-planned
returns-then-not-planned c = rw (c.if-not-planned.true)

pub returns-then-least-room : goal.returns-then-least-room
returns-then-least-room c = let a = c.args in
    simp (c.if-not-planned.false, lt-ltb a.least a.room c.if-least-room.true)

pub returns : goal.returns
returns c = let a = c.args in
    let few : a.room ≤ a.least = omega (arith, c.if-least-room.false) in
    simp (c.if-not-planned.false, le-ltb a.least a.room few)
