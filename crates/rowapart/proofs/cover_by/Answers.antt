-- `rowapart::cover_by` meets its contract: before position p, those below it are covered. Assumes nothing.
use mathlib.Core.Path.{◌≡◌, sym, ap, ◌∙◌}
use mathlib.Core.List.{List}
use Prim.Native.Nat.{ℕ, ◌+◌, ◌*◌}
use native.Mathlib.Omega.{arith}
use native.Mathlib.Nat.{le_refl}
use lib.Dec.{eqb}
use lib.ListN.{length-set, get_or}
use Rattle.laws.specs.Choice.{pick}
use Rattle.laws.specs.Part.{list_of}
use Rattle.laws.proofs.Stores.{sets-none, sets-beyond, sets_more, sets-all, length-list}
use Rattle.rowapart.specs.Code.{cover_by}
use Rattle.rowapart.proofs.cover_by.Goals as goal

pub loop-p-init : goal.loop-p-init
loop-p-init c = let a = c.args in
    (omega arith, c.requires.0, sets-none (cover_by a.n a.table.now a.j a.row.now) a.row.now)

pub loop-p-preserved : goal.loop-p-preserved
loop-p-preserved c = let a = c.args in
    let f = cover_by a.n a.table.now a.j a.row.now in
    let mine : get_or c.loop-p.row c.loop-p.p 0 ≡ get_or a.row.now c.loop-p.p 0
    = ap (λ (l : List ℕ). get_or l c.loop-p.p 0) c.loop-p.invariant.2 ∙ sets-beyond f c.loop-p.p a.row.now c.loop-p.p (le_refl c.loop-p.p) in (
      omega (arith, c.loop-p-test.true),
      simp length-set c.loop-p.invariant.1,
      sets_more f c.loop-p.p _ c.loop-p.row a.row.now
          (c.cover.ensures ∙ ap (λ (b : ℕ). pick (eqb (get_or a.table.now (a.j * a.n + c.loop-p.p) 0) 0) b 2) mine) c.loop-p.invariant.2,
    )

pub shape_of-row : goal.shape_of-row
shape_of-row c = c.loop-p.invariant.1 ∙ sym c.requires.0

pub returns : goal.returns
returns c = let a = c.args in
    let f = cover_by a.n a.table.now a.j a.row.now in
    let e : c.loop-p.p ≡ a.n = omega (arith, c.loop-p-test.false, c.loop-p.invariant.0) in
    (rw e at c.loop-p.invariant.2) ∙ sets-all (list_of f a.n) a.row.now (length-list f a.n ∙ sym c.requires.0)
