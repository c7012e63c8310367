-- `say_find::fragments_of` meets its contract: past the cells of an accepted site no cell has a load. Assumes nothing.
use mathlib.Core.Path.{◌∙◌}
use Rattle.finds.proofs.Loads.{loads-all}
use Rattle.say_find.proofs.fragments_of.Goals as goal

pub returns : goal.returns
returns c = c.loads_of_many.ensures.0 ∙ loads-all c.args.site c.requires
