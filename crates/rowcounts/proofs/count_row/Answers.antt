-- `rowcounts::count_row` meets its contract: before stretch k, the bytes of those before it are counted. Assumes nothing.
use Rattle.std.proofs.Common.{arith, refl, ◌≡◌, ◌+◌, ◌-◌, ◌*◌, ◌/◌, length, get_or}
use lib.ListN.{length-take}
use Rattle.laws.specs.Sum.{sum}
use Rattle.laws.proofs.Sums.{count_most}
use Rattle.theory.specs.Greedy.{sends}
use Rattle.rowcounts.proofs.Rows.{lent-most, stretch-more}
use Rattle.rowcounts.proofs.count_row.Goals as goal

pub loop-k-init : goal.loop-k-init
unfolding sum
loop-k-init c = refl

pub count_stretch-count-requires : goal.count_stretch-count-requires
count_stretch-count-requires c = rw length-take (omega arith)

pub overflow_add-count : goal.overflow_add-count
overflow_add-count c = let a = 128 * c.loop-k.k in
    omega (
      arith,
      count_most (λ k. sends (get_or c.args.row.now k 0)) a,
      lent-most a (a + 128 - a) c.args.row.now c.count_stretch-count.ensures,
    )

pub loop-k-preserved : goal.loop-k-preserved
loop-k-preserved c = let a = 128 * c.loop-k.k in
    let e : 128 * (c.loop-k.k + 1) ≡ a + 128 = omega arith in
    rw e (stretch-more a (a + 128) c.args.row.now c.loop-k.invariant c.count_stretch-count.ensures (omega arith) (omega arith))

pub count_stretch-requires : goal.count_stretch-requires
count_stretch-requires c = rw length-take (omega arith)

pub overflow_add-result : goal.overflow_add-result
overflow_add-result c = let row = c.args.row.now in
    let a = 128 * (length row / 128) in
    let all : c.loop-k.k ≡ length row / 128 = omega arith in
    omega (
      arith,
      rw all at c.loop-k.invariant,
      count_most (λ k. sends (get_or row k 0)) a,
      lent-most a (length row - a) row c.count_stretch.ensures,
    )

pub returns : goal.returns
returns c = let row = c.args.row.now in
    let all : c.loop-k.k ≡ length row / 128 = omega arith in
    stretch-more (128 * (length row / 128)) (length row) row (rw all at c.loop-k.invariant) c.count_stretch.ensures (omega arith) (omega arith)
