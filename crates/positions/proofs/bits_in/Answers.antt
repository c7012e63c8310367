-- `positions::bits_in` meets its contract: the kit's count of digits is the count of bits. Assumes nothing.
use Prim.Native.Nat.{◌<◌, ◌^◌}
use Rattle.positions.proofs.Counts.{ones-count}
use borrow.Author.Rules.{rules}
use Rattle.positions.proofs.bits_in.Goals as goal

pub returns : goal.returns
returns c =
    let small : c.args.x < 2 ^ 64 = search rules in
    ones-count 64 c.args.x small
