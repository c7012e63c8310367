-- `say_faults::clashes_at` meets its contract: before first cell a, the clashes of the cells below it are counted. Assumes nothing.
use Prim.Native.Nat.{ℕ}
use mathlib.Core.Bool.{Bool}
use mathlib.Core.Path.{refl}
use native.Mathlib.Omega.{arith}
use Rattle.laws.specs.Sum.{sum, count}
use Rattle.laws.proofs.Sums.{sum_more, count_most}
use Rattle.say_faults.specs.Said.{shown_in}
use Rattle.say_faults.specs.declared.Piece.TheVariants.{Clashing}
use Rattle.say_faults.proofs.Ready.{ready-sizes, sum-most}
use Rattle.say_faults.proofs.clashes_at.Goals as goal

pub loop-a-init : goal.loop-a-init
unfolding sum
loop-a-init c = refl

pub overflow_add-all : goal.overflow_add-all
overflow_add-all c = let n = c.args.site.cells in
    let p : ℕ → ℕ → Bool = λ x. shown_in c.args.site c.args.table.now (Clashing c.args.k x) in
    let most = (ready-sizes c.args.site c.args.table.now c.requires.0).cells_most in
    omega (
      arith,
      c.loop-a.invariant,
      c.piece_count-all.ensures,
      count_most (p c.loop-a.a) n,
      sum-most (λ x. count (p x) n) 32 c.loop-a.a (λ x. omega (arith, count_most (p x) n)),
    )

pub loop-a-preserved : goal.loop-a-preserved
loop-a-preserved c = let f : ℕ → ℕ = λ x. count (shown_in c.args.site c.args.table.now (Clashing c.args.k x)) c.args.site.cells in
    omega (arith, c.loop-a.invariant, sum_more f c.loop-a.a, c.piece_count-all.ensures)
