-- `say_slots::marked` meets its contract: an arm for each mark. Assumes nothing.
use mathlib.Core.Path.{◌∙◌}
use native.Mathlib.Omega.{arith}
use borrow.Author.Tests.{eq-eqb, ne_eqb}
use Rattle.drawing.specs.Slots.{marked_as}
use Rattle.say_slots.proofs.Ready.{clear-rows, wrong-rows}
use Rattle.site.proofs.Faults.{few-positions}
use Rattle.say_slots.proofs.marked.Goals as goal

pub is_blocked-requires : goal.is_blocked-requires
is_blocked-requires c = omega (arith, c.requires.2, few-positions c.requires.0.sizes)

pub returns-then-mark-eq-BLOCKED : goal.returns-then-mark-eq-BLOCKED
unfolding marked_as
returns-then-mark-eq-BLOCKED c = rw (eq-eqb _ _ c.if-mark-eq-BLOCKED.true) c.is_blocked.ensures

pub returns-then-mark-eq-CLEAR : goal.returns-then-mark-eq-CLEAR
unfolding marked_as
returns-then-mark-eq-CLEAR c = rw (ne_eqb _ _ c.if-mark-eq-BLOCKED.false, eq-eqb _ _ c.if-mark-eq-CLEAR.true)
    (c.keeps_clear.ensures ∙ clear-rows c.args.site.now c.args.table.now c.args.clash.now c.requires.0 c.args.i c.args.k)

pub returns-then-mark-eq-SENDS : goal.returns-then-mark-eq-SENDS
unfolding marked_as
returns-then-mark-eq-SENDS c = rw (
  ne_eqb _ _ c.if-mark-eq-BLOCKED.false,
  ne_eqb _ _ c.if-mark-eq-CLEAR.false,
  eq-eqb _ _ c.if-mark-eq-SENDS.true,
) c.sends_at.ensures

pub returns : goal.returns
unfolding marked_as
returns c = rw (ne_eqb _ _ c.if-mark-eq-BLOCKED.false, ne_eqb _ _ c.if-mark-eq-CLEAR.false, ne_eqb _ _ c.if-mark-eq-SENDS.false)
    (c.sends_wrong.ensures ∙ wrong-rows c.args.site.now c.args.table.now c.args.clash.now c.requires.0 c.args.i c.args.k)
