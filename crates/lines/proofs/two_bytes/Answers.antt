-- `lines::two_bytes` meets its contract: a byte is below 256. Assumes nothing.
use native.Mathlib.Omega.{arith}
use Prim.Native.Nat.{◌+◌, ◌<◌}
use mathlib.Core.Path.{refl}
use lib.ListN.{get_or}
use Rattle.lines.specs.Content.{pair_at}
use Rattle.lines.proofs.two_bytes.Goals as goal

pub returns : goal.returns
unfolding pair_at
returns c =
    let low : let a = c.args in get_or a.s.now a.at 0 < 256 = let a = c.args in omega (arith, c.shared_slice_known-2-1.given a.at) in
    let high : let a = c.args in get_or a.s.now (a.at + 1) 0 < 256 = let a = c.args in omega
    (arith, c.shared_slice_known-2-1.given (a.at + 1)) in record { pair = refl; small = omega (arith, low, high); bytes = (low, high) }
