-- `reachrows::others` meets its contract: before row a, the rows below a are stored, each without its own cell. Assumes nothing.
use mathlib.Core.Path.{refl, ◌∙◌}
use native.Mathlib.Omega.{arith}
use lib.ListN.{get_or, length-set}
use Rattle.laws.specs.Bits.{clear_bit}
use Rattle.laws.proofs.Stores.{sets-none, sets_more}
use Rattle.reachrows.proofs.others.Goals as goal

pub loop-a-init : goal.loop-a-init
loop-a-init c = (omega arith, refl, sets-none _ _)

pub loop-a-preserved : goal.loop-a-preserved
loop-a-preserved c = (
  omega arith,
  length-set c.loop-a.rows c.loop-a.a _ ∙ c.loop-a.invariant.1,
  sets_more (λ k. clear_bit (get_or c.args.reach k 0) k) c.loop-a.a _ c.loop-a.rows _ c.without_bit.ensures c.loop-a.invariant.2,
)
