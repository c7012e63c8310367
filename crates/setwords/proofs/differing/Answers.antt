-- `setwords::differing` meets its contract. Assumes nothing.
use mathlib.Core.Path.{◌∙◌}
use Rattle.setwords.proofs.Words.{count-unlike}
use Rattle.setwords.proofs.differing.Goals as goal

pub returns : goal.returns
returns c = c.bits_in.ensures ∙ count-unlike c.args.x c.args.y
