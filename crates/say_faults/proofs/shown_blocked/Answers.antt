-- `say_faults::shown_blocked` meets its contract: of a position that is not blocked nothing is shown, and else what the byte says. Assumes nothing.
use mathlib.Core.Path.{sym, ◌∙◌}
use native.Mathlib.Omega.{arith}
use Rattle.faults.specs.Faults.{barred_by}
use Rattle.say_faults.proofs.Ready.{ready-few, ready-row, ready-most}
use Rattle.say_faults.proofs.shown_blocked.Goals as goal

pub is_blocked-requires : goal.is_blocked-requires
is_blocked-requires c = omega (arith, c.requires.1, ready-few c.args.site c.args.table.now c.requires.0)

pub returns-then-not-is_blocked : goal.returns-then-not-is_blocked
unfolding barred_by
returns-then-not-is_blocked c = rw (sym c.is_blocked.ensures ∙ c.if-not-is_blocked.true)

pub overflow_mul-n : goal.overflow_mul-n
overflow_mul-n c = omega (arith, ready-few c.args.site c.args.table.now c.requires.0)

pub overflow_mul-result : goal.overflow_mul-result
overflow_mul-result c = omega (arith, ready-most c.args.site c.args.table.now c.requires.0 c.args.i c.requires.2)

pub overflow_add-result : goal.overflow_add-result
overflow_add-result c = omega (arith, c.requires.1, ready-most c.args.site c.args.table.now c.requires.0 c.args.i c.requires.2)

pub bounds-table-i : goal.bounds-table-i
bounds-table-i c = omega (arith, c.requires.1, ready-row c.args.site c.args.table.now c.requires.0 c.args.i c.requires.2)

pub returns : goal.returns
unfolding barred_by
returns c = rw (sym c.is_blocked.ensures ∙ c.if-not-is_blocked.false)
