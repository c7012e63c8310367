-- `square::mixed` meets its contract: bit by bit. Assumes nothing.
use Rattle.square.proofs.Fours.{mix-word}
use borrow.Author.Rules.{rules}
use Rattle.square.proofs.mixed.Goals as goal

pub returns : goal.returns
returns c = mix-word c.args.mask c.args.x c.args.y (search rules) (search rules)
