-- `rows::cover_row` meets its contract: before position p, those below it are covered. Assumes nothing.
use mathlib.Core.Path.{◌≡◌, refl, ap, ◌∙◌}
use Prim.Native.Nat.{◌+◌, ◌*◌}
use native.Mathlib.Omega.{arith}
use lib.ListN.{length}
use lib.Seq.{length-sets}
use Rattle.laws.specs.Part.{list_of}
use Rattle.rows.specs.Stretch.{cover_at}
use Rattle.rows.proofs.TakeOver.{cover-none, cover-more, cover-end}
use Rattle.rows.proofs.cover_row.Goals as goal

pub loop-p-init : goal.loop-p-init
loop-p-init c = let a = c.args in
    (omega arith, refl, cover-none a.n a.j a.i a.table.now c.requires.0 c.requires.1)

pub loop-p-preserved : goal.loop-p-preserved
loop-p-preserved c = let a = c.args in
    let more = cover-more a.n a.j a.i a.table.now c.requires.0 c.requires.1 c.loop-p.p
    c.loop-p-test.true c.loop-p.invariant.2 c.cover.ensures in (
      omega arith,
      ap length more ∙ length-sets a.table.now (a.i * a.n) (list_of (cover_at a.n a.table.now a.j a.i) (c.loop-p.p + 1)),
      more,
    )

pub returns : goal.returns
returns c = let a = c.args in
    let e : c.loop-p.p ≡ a.n = omega arith in
    (rw e at c.loop-p.invariant.2) ∙ cover-end a.n a.j a.i a.table.now c.requires.0 c.requires.1
