-- `rooms::touched_cells` meets its contract: `(1 << k) - 1` has the bits below k. Assumes nothing.
use mathlib.Core.Path.{ap, ◌∙◌}
use mathlib.Core.Bool.{not, ◌&&◌}
use Prim.Native.Nat.{ℕ, ◌-◌}
use native.Mathlib.Omega.{arith}
use lib.Bits.{bit_and}
use lib.Pow.{pow_pos}
use Rattle.laws.specs.Bits.{bit_at, set_bit, word_of}
use Rattle.laws.proofs.Bits.{one_shl}
use Rattle.rooms.proofs.touched_cells.Goals as goal

pub overflow_sub-k : goal.overflow_sub-k
overflow_sub-k c = let k = c.args.k in omega (arith, one_shl k c.requires, pow_pos k)

pub returns : goal.returns
returns c = let args = c.args in
    let low = one_shl args.k c.requires in
    c.with_bit.ensures
    ∙ ap (λ (x : ℕ). set_bit x args.k)
    (c.apart-above.ensures.0 ∙ ap (λ (n : ℕ). word_of (λ b. bit_at (bit_and args.who args.row) b && not (bit_at (n - 1) b)) 32) low)
