-- `shortrows::open_word` meets its contract: of the first n positions those that the other word has not. Assumes nothing.
use mathlib.Core.Path.{◌∙◌}
use Rattle.shortrows.proofs.Row.{open_is}
use Rattle.shortrows.proofs.open_word.Goals as goal

pub returns : goal.returns
returns c = c.without.ensures ∙ open_is c.args.n c.low_word-all.result c.args.blocked c.requires c.low_word-all.ensures
