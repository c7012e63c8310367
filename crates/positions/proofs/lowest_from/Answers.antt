-- `positions::lowest_from` meets its contract: zeros are counted up to the first bit. Assumes nothing.
use mathlib.Core.Path.{◌≡◌, ap, ◌∙◌}
use Prim.Native.Nat.{ℕ, ◌+◌, ◌-◌}
use native.Mathlib.Omega.{arith}
use Rattle.laws.specs.Bits.{bit_at}
use Rattle.laws.specs.Search.{first_of}
use Rattle.laws.proofs.Lowest.{zeros-first}
use Rattle.positions.proofs.lowest_from.Goals as goal

pub returns : goal.returns
returns c = let x = c.args.x in
    let m = c.args.m in
    let e : 64 ≡ m + 64 - m = omega arith in
    zeros-first x 64 m ∙ ap (λ (d : ℕ). first_of (bit_at x) d m) e
