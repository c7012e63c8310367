-- `positions::blocked_count` meets its contract: before word j, the positions of the words below it are counted. Assumes nothing.
use mathlib.Core.Path.{◌≡◌, refl, sym, ap, ap₂, ◌∙◌}
use Prim.Native.Nat.{ℕ, ◌+◌, ◌*◌, ◌/◌, ◌%◌}
use native.Mathlib.Omega.{arith}
use lib.ListN.{get_or}
use Rattle.laws.specs.Bits.{bit_at}
use Rattle.laws.specs.Sum.{sum, count}
use Rattle.laws.proofs.Sums.{count_most}
use Rattle.positions.specs.Blocked.{blocked_at}
use Rattle.positions.proofs.Counts.{count_at, count_word}
use Rattle.positions.proofs.blocked_count.Goals as goal

pub loop-j-init : goal.loop-j-init
unfolding sum
loop-j-init c = (omega arith, refl)

pub overflow_add-c : goal.overflow_add-c
overflow_add-c c = let s = c.args.set.now in
    omega (arith, c.bits_in-c.ensures, count_most (blocked_at s) (64 * c.loop-j.j), count_most (bit_at (get_or s c.loop-j.j 0)) 64)

pub loop-j-preserved : goal.loop-j-preserved
loop-j-preserved c = let s = c.args.set.now in
    (omega arith, omega (arith, c.bits_in-c.ensures, count_word s c.loop-j.j))

pub overflow_add-result : goal.overflow_add-result
overflow_add-result c = let s = c.args.set.now in
    let w = c.args.n / 64 in
    let e : c.loop-j.j ≡ w = omega arith in
    omega (
      arith,
      c.loop-j.invariant.1,
      c.ones_below.ensures,
      count_most (blocked_at s) (64 * c.loop-j.j),
      count_most (bit_at (get_or s w 0))
          (c.args.n % 64),
    )

pub returns : goal.returns
returns c = let s = c.args.set.now in
    let n = c.args.n in
    let e : c.loop-j.j ≡ n / 64 = omega arith in
    let m : 64 * (n / 64) + n % 64 ≡ n = omega arith in
    let h : c.loop-j.c ≡ count (blocked_at s) (64 * (n / 64)) = rw e at c.loop-j.invariant.1 in
    ap₂ (λ (x y : ℕ). x + y) h c.ones_below.ensures ∙ sym (count_at s (n / 64) (n % 64) (omega arith)) ∙ ap (count (blocked_at s)) m
