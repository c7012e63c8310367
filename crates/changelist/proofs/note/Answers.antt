-- `changelist::note` meets its contract. Assumes nothing.
use mathlib.Core.Path.{◌≡◌}
use Prim.Native.Nat.{suc, ◌+◌, ◌≤◌}
use native.Mathlib.Omega.{arith}
use lib.ListN.{length, length-set}
use native.Mathlib.Numerals.{add-one}
use Rattle.changelist.proofs.note.Goals as goal

pub bounds-list-at : goal.bounds-list-at
bounds-list-at c =
    let room : c.args.at + 4 ≤ length c.args.list.now = c.requires in
    omega (arith, room)

pub bounds-list-at-2 : goal.bounds-list-at-2
bounds-list-at-2 c =
    let room : c.args.at + 4 ≤ length c.args.list.now = c.requires in
    simp length-set (omega (arith, room))

pub bounds-list-at-3 : goal.bounds-list-at-3
bounds-list-at-3 c =
    let room : c.args.at + 4 ≤ length c.args.list.now = c.requires in
    simp length-set (omega (arith, room))

pub bounds-list-at-4 : goal.bounds-list-at-4
bounds-list-at-4 c =
    let room : c.args.at + 4 ≤ length c.args.list.now = c.requires in
    simp length-set (omega (arith, room))

pub returns : goal.returns
returns c = let a = c.args.at in
    let e2 : a + 2 ≡ suc (suc a) = omega arith in
    let e3 : a + 3 ≡ suc (suc (suc a)) = omega arith in
    rw (add-one a, e2, e3)
