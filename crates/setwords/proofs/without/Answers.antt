-- `setwords::without` meets its contract. Assumes nothing.
use Prim.Native.Nat.{◌<◌, ◌^◌}
use Rattle.setwords.proofs.Words.{word-apart}
use borrow.Author.Rules.{rules}
use Rattle.setwords.proofs.without.Goals as goal

pub returns : goal.returns
returns c =
    let small : c.args.x < 2 ^ 64 = search rules in
    let fits : c.args.y < 2 ^ 64 = search rules in
    word-apart c.args.x c.args.y small fits
