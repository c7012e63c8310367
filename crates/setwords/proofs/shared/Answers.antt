-- `setwords::shared` meets its contract. Assumes nothing.
use Prim.Native.Nat.{◌<◌, ◌^◌}
use Rattle.setwords.proofs.Words.{word-shared}
use borrow.Author.Rules.{rules}
use Rattle.setwords.proofs.shared.Goals as goal

pub returns : goal.returns
returns c =
    let small : c.args.x < 2 ^ 64 = search rules in
    let fits : c.args.y < 2 ^ 64 = search rules in
    word-shared c.args.x c.args.y small fits
