-- `say_slots::meets_one` meets its contract: from member to member of the row. Assumes nothing.
use Prim.Native.Nat.{◌+◌}
use mathlib.Core.Path.{◌≡◌, refl, sym, ◌∙◌}
use mathlib.Core.Bool.{false}
use native.Mathlib.Omega.{arith}
use borrow.Author.Tests.{eq-eqb, ne_eqb}
use Rattle.laws.specs.Bits.{bit_at}
use Rattle.laws.specs.Sum.{any}
use Rattle.laws.proofs.Any.{any_here, any-more}
use Rattle.laws.proofs.Search.{first-least}
use Rattle.theory.specs.Greedy.{reserved}
use Rattle.say_slots.proofs.Members.{none-between}
use Rattle.say_slots.proofs.meets_one.Invariants.{test}
use Rattle.say_slots.proofs.meets_one.Goals as goal

pub loop-c-init : goal.loop-c-init
unfolding any
loop-c-init c = let a = c.args in
    rw c.lowest-c.ensures (none-between (λ i. reserved a.n a.table.now i a.k) a.row a.cells 0 (omega arith) refl)

pub returns-then-table-c-eq1 : goal.returns-then-table-c-eq1
returns-then-table-c-eq1 c = let a = c.args in
    sym (any_here (test a.table.now a.n a.row a.k) a.cells c.loop-c.c c.loop-c-test.true
    (rw (eq-eqb _ _ c.if-table-c-eq1.true, c.loop-c.invariant.2 c.loop-c-test.true)))

pub loop-c-smaller : goal.loop-c-smaller
loop-c-smaller c = let a = c.args in
    omega (arith, c.loop-c-test.true, c.lowest-c-in-loop-c.ensures, first-least (bit_at a.row) (c.loop-c.c + 1) a.cells)

pub loop-c-preserved : goal.loop-c-preserved
loop-c-preserved c = let a = c.args in
    let here : reserved a.n a.table.now c.loop-c.c a.k ≡ false = ne_eqb _ _ c.if-table-c-eq1.false in
    let none : any (test a.table.now a.n a.row a.k) (c.loop-c.c + 1) ≡ false = any-more (test a.table.now a.n a.row a.k) c.loop-c.c
    ∙ rw (c.loop-c.invariant.1, here) in
    rw c.lowest-c-in-loop-c.ensures
    (none-between (λ i. reserved a.n a.table.now i a.k) a.row a.cells (c.loop-c.c + 1) (omega (arith, c.loop-c-test.true)) none)
