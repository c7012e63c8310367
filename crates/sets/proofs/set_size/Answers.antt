-- `sets::set_size` meets its contract: before word j, the positions of the words below it are counted. Assumes nothing.
use mathlib.Core.Path.{◌≡◌, refl}
use Prim.Native.Nat.{◌*◌}
use native.Mathlib.Omega.{arith}
use lib.ListN.{get_or}
use Rattle.laws.specs.Bits.{bit_at}
use Rattle.laws.specs.Sum.{sum}
use Rattle.laws.proofs.Sums.{count_most}
use Rattle.sets.specs.Sets.{in_set}
use Rattle.positions.proofs.Counts.{count_word}
use Rattle.sets.proofs.set_size.Goals as goal

pub loop-j-init : goal.loop-j-init
unfolding sum
loop-j-init c = (omega arith, refl)

pub overflow_add-n : goal.overflow_add-n
overflow_add-n c = let l = c.loop-j in
    let s = c.args.set.now in
    omega (arith, c.bits_in-n.ensures, count_most (in_set s) (64 * l.j), count_most (bit_at (get_or s l.j 0)) 64)

pub loop-j-preserved : goal.loop-j-preserved
loop-j-preserved c = let l = c.loop-j in
    let s = c.args.set.now in
    (omega arith, omega (arith, c.bits_in-n.ensures, count_word s l.j))

pub returns : goal.returns
returns c = let e : c.loop-j.j ≡ c.args.w = omega arith in
    rw e at c.loop-j.invariant.1
