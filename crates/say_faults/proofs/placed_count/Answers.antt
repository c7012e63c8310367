-- `say_faults::placed_count` meets its contract: before position k, the faults of the positions below it are counted. Assumes nothing.
use Prim.Native.Nat.{ℕ, ◌+◌, ◌≤◌, ◌<◌}
use mathlib.Core.Path.{◌≡◌, refl}
use mathlib.Core.Bool.{true}
use mathlib.Core.List.{List}
use native.Mathlib.Omega.{arith}
use Rattle.laws.specs.Sum.{sum}
use Rattle.laws.proofs.Sums.{sum_more}
use Rattle.site.specs.Record.{positions}
use Rattle.site.specs.declared.Site.{Site}
use Rattle.say_faults.specs.Said.{judgeable, placed_at}
use Rattle.say_faults.proofs.Ready.{ready-few, ready-placed, sum-most}
use Rattle.say_faults.proofs.placed_count.Goals as goal

-- the faults of a position and of those below it are few
few-placed : (s : Site) (t : List ℕ) → judgeable s t ≡ true → (k : ℕ) → k < positions s → sum (placed_at s t) k + placed_at s t k ≤ 2162688
few-placed s t ok k below = let few = ready-placed s t ok in
    omega (arith, ready-few s t ok, few k, sum-most (placed_at s t) 1056 k few)

pub loop-k-init : goal.loop-k-init
unfolding sum
loop-k-init c = refl

pub overflow_add-all : goal.overflow_add-all
overflow_add-all c = let few = few-placed c.args.site c.args.table.now c.requires.0 c.loop-k.k (omega arith) in
    omega (arith, few, c.piece_count.ensures, c.clashes_at.ensures)

pub overflow_add-all-in-loop-k : goal.overflow_add-all-in-loop-k
overflow_add-all-in-loop-k c = let few = few-placed c.args.site c.args.table.now c.requires.0 c.loop-k.k (omega arith) in
    omega (arith, few, c.loop-k.invariant, c.piece_count.ensures, c.clashes_at.ensures)

pub loop-k-preserved : goal.loop-k-preserved
loop-k-preserved c = let more = sum_more (placed_at c.args.site c.args.table.now) c.loop-k.k in
    omega (arith, c.loop-k.invariant, more, c.piece_count.ensures, c.clashes_at.ensures)
