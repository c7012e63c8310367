-- `setwords::either` meets its contract. Assumes nothing.
use Prim.Native.Nat.{◌<◌, ◌^◌}
use Rattle.setwords.proofs.Words.{word-either}
use borrow.Author.Rules.{rules}
use Rattle.setwords.proofs.either.Goals as goal

pub returns : goal.returns
returns c =
    let small : c.args.x < 2 ^ 64 = search rules in
    let fits : c.args.y < 2 ^ 64 = search rules in
    word-either c.args.x c.args.y small fits
