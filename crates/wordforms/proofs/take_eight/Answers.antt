-- `wordforms::take_eight` meets its contract: before position k, that many bytes are stored. Assumes nothing.
use mathlib.Core.Path.{◌≡◌, refl, ◌∙◌}
use Prim.Native.Nat.{◌+◌}
use native.Mathlib.Omega.{arith}
use lib.ListN.{length-set}
use Rattle.laws.proofs.Stores.{sets-none, sets_more}
use Rattle.wordforms.specs.Eights.{eight_of}
use Rattle.wordforms.proofs.take_eight.Goals as goal

pub loop-k-init : goal.loop-k-init
loop-k-init c = (omega arith, refl, sets-none _ _)

pub loop-k-preserved : goal.loop-k-preserved
loop-k-preserved c = let l = c.loop-k in
    let a = c.args in (
      omega arith,
      length-set l.bytes l.k _ ∙ l.invariant.1,
      sets_more (λ k. eight_of a.n a.table.now a.i (a.at + k)) l.k _ l.bytes a.bytes.now c.eight_at.ensures l.invariant.2,
    )

pub returns : goal.returns
returns c = let e : c.loop-k.k ≡ c.args.m = omega arith in
    rw e at c.loop-k.invariant.2
