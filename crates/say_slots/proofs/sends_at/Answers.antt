-- `say_slots::sends_at` meets its contract: the byte is in the table. Assumes nothing.
use native.Mathlib.Omega.{arith}
use Rattle.say_slots.proofs.Ready.{row-most, row-in}
use Rattle.site.proofs.Faults.{few-positions}
use Rattle.say_slots.proofs.sends_at.Goals as goal

pub overflow_mul-n : goal.overflow_mul-n
overflow_mul-n c = omega (arith, few-positions c.requires.0)

pub overflow_mul-result : goal.overflow_mul-result
overflow_mul-result c = omega (arith, row-most c.args.site.now c.requires.0 c.args.i c.requires.2)

pub overflow_add-result : goal.overflow_add-result
overflow_add-result c = omega (arith, c.requires.3, row-most c.args.site.now c.requires.0 c.args.i c.requires.2)

pub bounds-table-i : goal.bounds-table-i
bounds-table-i c = omega (arith, c.requires.3, row-in c.args.site.now c.requires.0 c.args.table.now c.requires.1 c.args.i c.requires.2)
