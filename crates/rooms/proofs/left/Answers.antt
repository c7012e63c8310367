-- `rooms::left` meets its contract: what is below 0 is 0. Assumes nothing.
use mathlib.Core.Path.{◌≡◌}
use Prim.Native.Nat.{◌-◌}
use native.Mathlib.Omega.{arith}
use borrow.Author.Tests.{lt-ltb, le-ltb}
use Rattle.rooms.proofs.left.Goals as goal

pub returns-then-room-most : goal.returns-then-room-most
returns-then-room-most c = rw (lt-ltb _ _ c.if-room-most.true)

pub returns-then-room-touched : goal.returns-then-room-touched
returns-then-room-touched c = let a = c.args in
    let none : 0 ≡ a.room - a.touched = omega arith in
    rw (le-ltb _ _ c.if-room-most.false) none

pub returns : goal.returns
returns c = rw (le-ltb _ _ c.if-room-most.false)
