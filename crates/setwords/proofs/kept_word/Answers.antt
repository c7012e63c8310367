-- `setwords::kept_word` meets its contract: a number of 64 bits is the word of its bits. Assumes nothing.
use Prim.Native.Nat.{◌<◌, ◌^◌}
use Rattle.laws.proofs.Words.{word-bits}
use borrow.Author.Rules.{rules}
use Rattle.setwords.proofs.kept_word.Goals as goal

pub returns : goal.returns
returns c =
    let small : c.args.x < 2 ^ 64 = search rules in
    word-bits c.args.x 64 small
