-- `numberrows::moved_loads` meets its contract: the elements below a are stored, each from the old number. Assumes nothing.
use mathlib.Core.Path.{◌≡◌, refl, ap, ◌∙◌}
use Prim.Native.Nat.{ℕ}
use native.Mathlib.Omega.{arith}
use lib.ListN.{length-set, get_or}
use Rattle.laws.proofs.Stores.{sets-none}
use Rattle.numberrows.proofs.Moved.{moved_more, moved-end}
use Rattle.numberrows.proofs.moved_loads.Goals as goal

pub loop-a-init : goal.loop-a-init
loop-a-init c = (omega arith, refl, sets-none _ _)

pub cell_at-requires : goal.cell_at-requires
cell_at-requires c = let names = c.requires.1 c.loop-a.a c.loop-a-test.true in
    (omega arith, names.0, omega (arith, names.1))

pub offset_bounds-loads-cell_at : goal.offset_bounds-loads-cell_at
offset_bounds-loads-cell_at c = omega arith

pub bounds-loads-cell_at : goal.bounds-loads-cell_at
bounds-loads-cell_at c = omega arith

pub offset_bounds-moved-a : goal.offset_bounds-moved-a
offset_bounds-moved-a c = omega arith

pub bounds-moved-a : goal.bounds-moved-a
bounds-moved-a c = omega arith

pub overflow_step-a : goal.overflow_step-a
overflow_step-a c = omega arith

pub loop-a-smaller : goal.loop-a-smaller
loop-a-smaller c = omega arith

pub loop-a-preserved : goal.loop-a-preserved
loop-a-preserved c = let args = c.args in (
  omega arith,
  length-set c.loop-a.moved c.loop-a.a _ ∙ c.loop-a.invariant.1,
  moved_more args.old.now args.cells args.loads.now c.loop-a.a _ c.loop-a.moved _ (omega arith)
      (ap (λ (x : ℕ). get_or args.loads.now x 0) c.cell_at.ensures.0) c.loop-a.invariant.2,
)

pub returns : goal.returns
returns c = let e : c.loop-a.a ≡ c.args.cells = omega arith in
    let args = c.args in
    (rw e at c.loop-a.invariant.2) ∙ moved-end args.old.now args.cells args.loads.now c.requires.0
