-- `say_slots::keeps_clear` meets its contract: the tests decide the conjunction. Assumes nothing.
use mathlib.Core.Path.{sym, ◌∙◌}
use native.Mathlib.Omega.{arith}
use borrow.Author.Tests.{eq-eqb, ne_eqb}
use Rattle.say_slots.proofs.Ready.{row-most, row-in}
use Rattle.site.proofs.Faults.{few-positions}
use Rattle.say_slots.proofs.keeps_clear.Goals as goal

pub overflow_mul-n : goal.overflow_mul-n
overflow_mul-n c = omega (arith, few-positions c.requires.0)

pub overflow_mul-i : goal.overflow_mul-i
overflow_mul-i c = omega (arith, row-most c.args.site.now c.requires.0 c.args.i c.requires.2)

pub overflow_add-i : goal.overflow_add-i
overflow_add-i c = omega (arith, c.requires.3, row-most c.args.site.now c.requires.0 c.args.i c.requires.2)

pub bounds-table-i : goal.bounds-table-i
bounds-table-i c = omega (arith, c.requires.3, row-in c.args.site.now c.requires.0 c.args.table.now c.requires.1 c.args.i c.requires.2)

pub returns-then-table-i-eq1 : goal.returns-then-table-i-eq1
returns-then-table-i-eq1 c = simp (eq-eqb _ _ c.if-table-i-eq1.true)

pub is_blocked-requires : goal.is_blocked-requires
is_blocked-requires c = omega (arith, c.requires.3, few-positions c.requires.0)

pub returns-then-is_blocked : goal.returns-then-is_blocked
returns-then-is_blocked c = simp (ne_eqb _ _ c.if-table-i-eq1.false, sym c.is_blocked.ensures ∙ c.if-is_blocked.true)

pub meets_one-requires : goal.meets_one-requires
meets_one-requires c = (c.requires.3, few-positions c.requires.0, c.requires.0.cells_most, c.requires.1)

pub returns : goal.returns
returns c = simp (ne_eqb _ _ c.if-table-i-eq1.false, sym c.is_blocked.ensures ∙ c.if-is_blocked.false) c.meets_one.ensures
