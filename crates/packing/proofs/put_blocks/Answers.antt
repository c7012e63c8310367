-- `packing::put_blocks` meets its contract: before block k, two words for each block are stored. Assumes nothing.
use mathlib.Core.Path.{◌≡◌, refl, ◌∙◌}
use Prim.Native.Nat.{◌-◌}
use native.Mathlib.Omega.{arith}
use lib.ListN.{length-set}
use Rattle.laws.proofs.Stores.{sets-none, sets-two}
use Rattle.packing.specs.Packed.{block_word}
use Rattle.packing.proofs.Packed.{block-low, block-high}
use Rattle.packing.proofs.put_blocks.Goals as goal

pub loop-k-init : goal.loop-k-init
loop-k-init c = (omega arith, refl, sets-none _ _)

pub loop-k-preserved : goal.loop-k-preserved
loop-k-preserved c = let l = c.loop-k in
    let a = c.args in (
      omega arith,
      simp length-set l.invariant.1,
      sets-two (block_word a.row.now) l.k _ _ l.set a.set.now (c.block_of-block.ensures.low ∙ block-low l.k a.row.now)
          (c.block_of-block.ensures.high ∙ block-high l.k a.row.now) l.invariant.2,
    )

pub returns : goal.returns
returns c = let e : c.loop-k.k ≡ c.args.m = omega arith in
    rw e at c.loop-k.invariant.2
