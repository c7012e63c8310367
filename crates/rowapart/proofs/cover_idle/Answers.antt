-- `rowapart::cover_idle` meets its contract: before position k, those below it are covered. Assumes nothing.
use mathlib.Core.Path.{◌≡◌, sym, ◌∙◌}
use mathlib.Core.List.{[]}
use native.Mathlib.Omega.{arith}
use lib.ListN.{length-set}
use Rattle.laws.specs.Part.{list_of}
use Rattle.laws.proofs.Stores.{sets-none, sets_more, sets-all, length-list}
use Rattle.rowapart.specs.Code.{cover_by}
use Rattle.rowapart.proofs.cover_idle.Goals as goal

pub loop-k-init : goal.loop-k-init
loop-k-init c = let a = c.args in
    (omega arith, c.requires.0, sets-none (cover_by a.n a.table.now a.j []) a.row.now)

pub loop-k-preserved : goal.loop-k-preserved
loop-k-preserved c = let a = c.args in (
  omega (arith, c.loop-k-test.true),
  simp length-set c.loop-k.invariant.1,
  sets_more (cover_by a.n a.table.now a.j []) c.loop-k.k _ c.loop-k.row a.row.now c.cover.ensures c.loop-k.invariant.2,
)

pub shape_of-row : goal.shape_of-row
shape_of-row c = c.loop-k.invariant.1 ∙ sym c.requires.0

pub returns : goal.returns
returns c = let a = c.args in
    let f = cover_by a.n a.table.now a.j [] in
    let e : c.loop-k.k ≡ a.n = omega (arith, c.loop-k-test.false, c.loop-k.invariant.0) in
    (rw e at c.loop-k.invariant.2) ∙ sets-all (list_of f a.n) a.row.now (length-list f a.n ∙ sym c.requires.0)
