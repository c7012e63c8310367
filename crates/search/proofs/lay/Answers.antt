-- `search::lay` meets its contract: at each head of the loop the first k fragments are laid out. Assumes nothing.
use mathlib.Core.Path.{refl, ap}
use Prim.Native.Nat.{◌+◌, ◌*◌, ◌<◌}
use native.Mathlib.Omega.{arith}
use native.Mathlib.Numerals.{add-one}
use lib.ListN.{length, get_or, set, length-set}
use Rattle.search.specs.Hunt.{placed_of}
use Rattle.search.specs.Search.{lay_out}
use Rattle.search.proofs.lay.Goals as goal

pub loop-k-init : goal.loop-k-init
unfolding lay_out placed_of
loop-k-init c = (omega arith, refl, refl)

pub overflow_mul-table : goal.overflow_mul-table
overflow_mul-table c =
    let index : get_or c.args.at c.loop-k.k 0 < length c.args.opens.now = c.requires.by_index c.loop-k.k c.loop-k-test.true in
    let spot : get_or c.args.owner.now c.loop-k.k 0 * c.args.n + get_or c.args.opens.now (get_or c.args.at c.loop-k.k 0) 0 < length c.loop-k.table = omega (
      arith,
      c.requires.spots c.loop-k.k (get_or c.args.at c.loop-k.k 0)
          c.loop-k-test.true index,
      c.loop-k.invariant.1,
    ) in
    record { fits = omega (arith, spot) }

pub loop-k-preserved : goal.loop-k-preserved
unfolding lay_out placed_of
loop-k-preserved c = let p = c.loop-k in (
  omega arith,
  simp length-set p.invariant.1,
  rw add-one (ap (λ z. set z (get_or c.args.owner.now p.k 0 * c.args.n +
      get_or c.args.opens.now (get_or c.args.at p.k 0) 0) 1) p.invariant.2),
)
