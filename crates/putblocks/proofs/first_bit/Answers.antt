-- `putblocks::first_bit` meets its contract: the search from here on is the search from f on. Assumes nothing.
use mathlib.Core.Path.{◌≡◌, sym, ◌∙◌}
use mathlib.Core.Bool.{Bool, not}
use Prim.Native.Nat.{ℕ}
use native.Mathlib.Omega.{arith}
use Rattle.laws.specs.Bits.{bit_at}
use Rattle.laws.specs.Choice.{pick}
use Rattle.laws.proofs.Search.{found, missed, ended}
use Rattle.putblocks.proofs.first_bit.Goals as goal

pub returns-then-is_bit : goal.returns-then-is_bit
returns-then-is_bit c =
    let wanted : ℕ → Bool = λ i. pick c.args.want (bit_at c.args.x i) (not (bit_at c.args.x i)) in
    found wanted c.loop-g.g c.args.e c.loop-g.invariant.1 (omega arith) (sym c.is_bit.ensures ∙ c.if-is_bit.true)

pub loop-g-preserved : goal.loop-g-preserved
loop-g-preserved c =
    let wanted : ℕ → Bool = λ i. pick c.args.want (bit_at c.args.x i) (not (bit_at c.args.x i)) in
    (omega arith, missed wanted c.loop-g.g c.args.e c.loop-g.invariant.1 (omega arith) (sym c.is_bit.ensures ∙ c.if-is_bit.false))

pub returns : goal.returns
returns c =
    let wanted : ℕ → Bool = λ i. pick c.args.want (bit_at c.args.x i) (not (bit_at c.args.x i)) in
    let e : c.max.result ≡ c.loop-g.g = omega arith in
    e ∙ ended wanted c.loop-g.g c.args.e c.loop-g.invariant.1 (omega arith)
