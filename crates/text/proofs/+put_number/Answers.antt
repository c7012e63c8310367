-- `text::put_number` meets its contract. A number below a hundred is one digit or two;
-- any other is the digits of its hundredth part and two more. Assumes nothing.
use native.Mathlib.Omega.{arith}
use native.Mathlib.Numerals.{add-one}
use lib.ListN.{length-set}
use Prim.Native.Nat.{◌≤◌}
use Rattle.laws.proofs.Stores.{sets-append}
use Rattle.text.proofs.Digits.{decimal-hundreds, hundreds-long}
use Rattle.text.proofs.+put_number.Goals as goal

pub put_number-last-requires : goal.put_number-last-requires
put_number-last-requires t c =
    let x = c.args.x in
    let h : 100 ≤ x = omega arith in
    (omega arith, omega (arith, c.requires, hundreds-long x h))

pub bounds-out-last : goal.bounds-out-last
bounds-out-last t c =
    let h : 100 ≤ c.args.x = omega arith in
    omega (arith, c.requires, hundreds-long c.args.x h, c.put_number-last.ensures.next, c.put_number-last.auto.out)

pub overflow_add-out-3 : goal.overflow_add-out-3
overflow_add-out-3 t c =
    let h : 100 ≤ c.args.x = omega arith in
    omega (arith, c.requires, hundreds-long c.args.x h, c.put_number-last.ensures.next, c.put_number-last.auto.out)

pub bounds-out-last-2 : goal.bounds-out-last-2
bounds-out-last-2 t c =
    let h : 100 ≤ c.args.x = omega arith in
    simp length-set (omega (arith, c.requires, hundreds-long c.args.x h, c.put_number-last.ensures.next, c.put_number-last.auto.out))

pub overflow_add-result : goal.overflow_add-result
overflow_add-result t c =
    let h : 100 ≤ c.args.x = omega arith in
    omega (arith, c.requires, hundreds-long c.args.x h, c.put_number-last.ensures.next, c.put_number-last.auto.out)

pub returns-clause-stored : goal.returns-clause-stored
returns-clause-stored t c =
    let h : 100 ≤ c.args.x = omega arith in
    let n = c.put_number-last.ensures in
    rw (decimal-hundreds c.args.x h, sets-append, n.stored, n.next, add-one)

pub returns-clause-next : goal.returns-clause-next
returns-clause-next t c =
    let h : 100 ≤ c.args.x = omega arith in
    omega (arith, hundreds-long c.args.x h, c.put_number-last.ensures.next)
