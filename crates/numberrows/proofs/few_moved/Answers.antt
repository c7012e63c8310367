-- `numberrows::few_moved` meets its contract: the rows below a are stored, each from the old number and with its bits moved. Assumes nothing.
use mathlib.Core.Path.{◌≡◌, refl, ap, ◌∙◌}
use Prim.Native.Nat.{ℕ}
use native.Mathlib.Omega.{arith}
use lib.ListN.{length-set, get_or}
use Rattle.laws.specs.Bits.{bit_at, word_of}
use Rattle.laws.proofs.Stores.{sets-none, sets_more}
use Rattle.renumbering.specs.Numbering.{index_at}
use Rattle.numberrows.proofs.Moved.{moved_bit, row-few, few-end}
use Rattle.numberrows.proofs.few_moved.Goals as goal

pub loop-a-init : goal.loop-a-init
loop-a-init c = (omega arith, refl, sets-none _ _)

pub cell_at-requires : goal.cell_at-requires
cell_at-requires c = let names = c.requires.1 c.loop-a.a c.loop-a-test.true in
    (omega arith, names.0, omega (arith, names.1))

pub loop-a-preserved : goal.loop-a-preserved
loop-a-preserved c = let args = c.args in
    let old = args.old.now in
    let rows = args.rows.now in (
      omega arith,
      length-set c.loop-a.moved c.loop-a.a _ ∙ c.loop-a.invariant.1,
      sets_more (λ k. word_of (moved_bit old args.cells rows k) 32) c.loop-a.a _ c.loop-a.moved _
          (c.moved_bits.ensures
          ∙ ap (λ (x : ℕ). word_of (λ b. bit_at (get_or rows x 0) (index_at old b)) args.cells) c.cell_at.ensures.0
          ∙ row-few old args.cells rows c.loop-a.a (omega arith) (omega arith))
          c.loop-a.invariant.2,
    )

pub returns : goal.returns
returns c = let e : c.loop-a.a ≡ c.args.cells = omega arith in
    let args = c.args in
    (rw e at c.loop-a.invariant.2) ∙ few-end args.old.now args.cells args.rows.now c.requires.0
