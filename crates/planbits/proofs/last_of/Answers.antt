-- `planbits::last_of` meets its contract. The invariant: v is the number of the table bytes from i on. Assumes nothing.
use Rattle.std.proofs.Common.{ℕ, List, ◌≡◌, ◌+◌, ◌-◌, ◌*◌, ◌<◌, ◌≤◌, sym, ◌∙◌, arith}
use lib.ListN.{get_or}
use lib.Pow.{pow_mono}
use Rattle.planbits.specs.Bits.{one, ones}
use Rattle.planbits.proofs.Bits.{ones_lt, ones-past, ones_step}
use Rattle.planbits.proofs.last_of.Goals as goal

-- one table byte more, below those of v: the number is theirs, and fits a byte
module _ (t : List ℕ) (k i v b : ℕ) (some : k < i) (most : i ≤ k + 8) (bit : b ≡ one (get_or t (i - 1) 0)) (so_far : v ≡ ones t i (k + 8 - i)) where
  turn : 2 * v + b ≡ ones t (i - 1) (k + 8 - (i - 1))
  turn = omega (arith, ones_step t k i some most, bit, so_far)

  small : 2 * v + b < 256
  small = omega (arith, turn, ones_lt t (k + 8 - (i - 1)) (i - 1), pow_mono {i = k + 8 - (i - 1)} {j = 8} (omega arith))

pub loop-i-init : goal.loop-i-init
loop-i-init c = (omega arith, sym (ones-past _ _ _ (omega arith)))

pub overflow_mul-v : goal.overflow_mul-v
overflow_mul-v c = let l = c.loop-i in
    omega (arith, small c.args.table.now c.args.k l.i l.v c.is_one-b.result (omega arith) (omega arith) c.is_one-b.ensures l.invariant.1)

pub overflow_add-v : goal.overflow_add-v
overflow_add-v c = let l = c.loop-i in
    omega (arith, small c.args.table.now c.args.k l.i l.v c.is_one-b.result (omega arith) (omega arith) c.is_one-b.ensures l.invariant.1)

pub loop-i-preserved : goal.loop-i-preserved
loop-i-preserved c = let l = c.loop-i in
    (omega arith, turn c.args.table.now c.args.k l.i l.v c.is_one-b.result (omega arith) (omega arith) c.is_one-b.ensures l.invariant.1)

pub returns : goal.returns
returns c = let l = c.loop-i in
    let a = c.args in
    let e : l.i ≡ a.k = omega arith in
    let f : a.k + 8 - a.k ≡ 8 = omega arith in
    l.invariant.1 ∙ rw (e, f)
