-- `say_grid::put_entry` meets its contract: a slot's number in the first line, and a place in the others. Assumes nothing.
use Prim.Native.Nat.{◌+◌, ◌-◌, ◌*◌, ◌<◌}
use native.Mathlib.Omega.{arith}
use borrow.Author.Tests.{eq-eqb, ne_eqb}
use Rattle.laws.proofs.Grid.{inside}
use Rattle.site.specs.Record.{positions}
use Rattle.say_faults.proofs.Ready.{ready-sizes, ready-few}
use Rattle.say_grid.specs.Grid.{entry_said}
use Rattle.say_grid.proofs.Steps.{number_put}
use Rattle.say_grid.proofs.put_entry.Goals as goal

pub overflow_add-slot : goal.overflow_add-slot
overflow_add-slot c = omega (arith, c.requires.line_le_channels.1)

pub returns-then-line-eq0 : goal.returns-then-line-eq0
unfolding entry_said
returns-then-line-eq0 c = let few = (ready-sizes c.args.site c.args.table.now c.requires.table_value.0).slots_most in
    rw (eq-eqb c.args.line 0 c.if-line-eq0.true) (number_put c.args.slot (omega (arith, c.requires.line_le_channels.1, few)) c.put.ensures)

pub overflow_mul-slot : goal.overflow_mul-slot
overflow_mul-slot c =
    let there : c.args.slot * c.args.site.channels + (c.args.line - 1) < positions c.args.site = let a = c.args in
    inside a.site.slots a.site.channels a.slot (a.line - 1) c.requires.line_le_channels.1 (omega (arith, c.requires.line_le_channels.0, c.if-line-eq0.false)) in
    omega (arith, there, ready-few c.args.site c.args.table.now c.requires.table_value.0)

pub overflow_add-slot-2 : goal.overflow_add-slot-2
overflow_add-slot-2 c =
    let there : c.args.slot * c.args.site.channels + (c.args.line - 1) < positions c.args.site = let a = c.args in
    inside a.site.slots a.site.channels a.slot (a.line - 1) c.requires.line_le_channels.1 (omega (arith, c.requires.line_le_channels.0, c.if-line-eq0.false)) in
    omega (arith, there, ready-few c.args.site c.args.table.now c.requires.table_value.0)

pub place_at-place-requires : goal.place_at-place-requires
place_at-place-requires c =
    let there : c.args.slot * c.args.site.channels + (c.args.line - 1) < positions c.args.site = let a = c.args in
    inside a.site.slots a.site.channels a.slot (a.line - 1) c.requires.line_le_channels.1 (omega (arith, c.requires.line_le_channels.0, c.if-line-eq0.false)) in
    (c.requires.table_value.0, c.requires.table_value.1, there)

pub returns : goal.returns
unfolding entry_said
returns c = rw (ne_eqb c.args.line 0 c.if-line-eq0.false) (rw c.place_at-place.ensures at c.put_place.ensures)
