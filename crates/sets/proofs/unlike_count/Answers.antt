-- `sets::unlike_count` meets its contract: before word j, what the words below it do not share is counted. Assumes nothing.
use mathlib.Core.Path.{◌≡◌, refl}
use mathlib.Core.Bool.{not}
use Prim.Native.Nat.{◌*◌}
use native.Mathlib.Omega.{arith}
use lib.ListN.{get_or}
use Rattle.laws.specs.Bits.{bit_at}
use Rattle.laws.specs.Choice.{pick}
use Rattle.laws.specs.Sum.{sum}
use Rattle.laws.proofs.Sums.{count_most}
use Rattle.sets.specs.Sets.{in_set}
use Rattle.sets.proofs.Sets.{count-two}
use Rattle.sets.proofs.unlike_count.Goals as goal

pub loop-j-init : goal.loop-j-init
unfolding sum
loop-j-init c = (omega arith, refl)

pub overflow_add-n : goal.overflow_add-n
overflow_add-n c = let l = c.loop-j in
    let a = c.args in
    omega (
      arith,
      c.differing-n.ensures,
      count_most (λ k. pick (in_set a.b.now k) (not (in_set a.a.now k)) (in_set a.a.now k)) (64 * l.j),
      count_most (λ q. pick (bit_at (get_or a.b.now l.j 0) q) (not (bit_at (get_or a.a.now l.j 0) q)) (bit_at (get_or a.a.now l.j 0) q)) 64,
    )

pub loop-j-preserved : goal.loop-j-preserved
loop-j-preserved c = let l = c.loop-j in
    let a = c.args in
    (omega arith, omega (arith, c.differing-n.ensures, count-two (λ s t. pick t (not s) s) a.a.now a.b.now l.j))

pub returns : goal.returns
returns c = let e : c.loop-j.j ≡ c.args.w = omega arith in
    rw e at c.loop-j.invariant.1
