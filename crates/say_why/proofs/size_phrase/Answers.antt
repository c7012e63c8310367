-- `say_why::size_phrase` meets its contract: the fewest for the one number, and for the other. Assumes nothing.
use mathlib.Core.Path.{ap₂, ◌∙◌}
use Rattle.why.specs.Said.{size_row, size_phrase}
use Rattle.say_why.proofs.size_phrase.Goals as goal

pub returns : goal.returns
unfolding size_phrase
returns c = c.size_row.ensures ∙ ap₂ (size_row c.args.row c.args.most c.args.f) c.fewest.ensures c.fewest-2.ensures
