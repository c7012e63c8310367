-- `say_grid::piece_slots` meets its contract: the tests that led to each return decide. Assumes nothing.
use mathlib.Core.Path.{refl, sym, ◌∙◌}
use native.Mathlib.Omega.{arith}
use borrow.Author.Tests.{lt-ltb, le-ltb}
use Rattle.say_faults.proofs.Ready.{ready-fine}
use Rattle.say_grid.specs.Grid.{piece_slots}
use Rattle.say_grid.proofs.piece_slots.Goals as goal

pub returns-then-not-can_judge : goal.returns-then-not-can_judge
unfolding piece_slots
returns-then-not-can_judge c = rw (sym c.can_judge.ensures ∙ c.if-not-can_judge.true)

pub returns-then-slots-from : goal.returns-then-slots-from
unfolding piece_slots
returns-then-slots-from c = let a = c.args in
    rw (sym c.can_judge.ensures ∙ c.if-not-can_judge.false, le-ltb a.from a.site.slots c.if-slots-from.true)

pub fitting-requires : goal.fitting-requires
fitting-requires c = let a = c.args in
    let ok = sym c.can_judge.ensures ∙ c.if-not-can_judge.false in record {
      table_value =
          (ok, c.clash_rows-clash.ensures.clash (ready-fine a.site a.table.now ok));
      left_nonzero = (omega (arith, c.if-slots-from.false), refl);
    }

pub returns : goal.returns
unfolding piece_slots
returns c = let a = c.args in
    rw (sym c.can_judge.ensures ∙ c.if-not-can_judge.false, lt-ltb a.from a.site.slots (omega (arith, c.if-slots-from.false)))
    c.fitting.ensures
