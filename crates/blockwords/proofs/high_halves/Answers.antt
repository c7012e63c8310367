-- `blockwords::high_halves` meets its contract. Assumes nothing.
use Prim.Native.Nat.{◌<◌, ◌^◌}
use Rattle.blockwords.proofs.Places.{high-joined}
use borrow.Author.Rules.{rules}
use Rattle.blockwords.proofs.high_halves.Goals as goal

pub returns : goal.returns
returns c =
    let small : c.args.x < 2 ^ 64 = search rules in
    let small' : c.args.y < 2 ^ 64 = search rules in
    high-joined c.args.x c.args.y small small'
