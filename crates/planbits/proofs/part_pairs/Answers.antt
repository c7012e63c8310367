-- `planbits::part_pairs` meets its contract. The invariant: the numbers before i are parted. Assumes nothing.
use Prim.Native.Nat.{◌+◌, ◌*◌}
use mathlib.Core.Path.{◌≡◌, refl, ◌∙◌}
use native.Mathlib.Omega.{arith}
use lib.ListN.{set, length-set}
use Rattle.laws.specs.Part.{list_of}
use Rattle.planbits.proofs.Halves.{halves-more}
use Rattle.planbits.proofs.part_pairs.Goals as goal

pub loop-i-init : goal.loop-i-init
unfolding list_of
loop-i-init c = (omega arith, refl, refl)

pub bounds-out-at-in-loop-i : goal.bounds-out-at-in-loop-i
bounds-out-at-in-loop-i c = let l = c.loop-i in
    let a = c.args in
    omega (arith, length-set l.out (a.at + 2 * l.i) c.low_bits.result, l.invariant.1)

pub loop-i-preserved : goal.loop-i-preserved
loop-i-preserved c = let l = c.loop-i in
    let a = c.args in
    let low = c.low_bits.result in (
      omega arith,
      length-set (set l.out (a.at + 2 * l.i) low) (a.at + 2 * l.i + 1) c.low_bits-in-loop-i.result ∙ length-set l.out (a.at + 2 * l.i) low ∙ l.invariant.1,
      halves-more a.c a.pairs.now a.k a.at l.i low c.low_bits-in-loop-i.result l.out
          a.out.now c.low_bits.ensures c.low_bits-in-loop-i.ensures l.invariant.2,
    )

pub returns : goal.returns
returns c = let e : c.loop-i.i ≡ c.args.n = omega arith in
    rw e at c.loop-i.invariant.2
