-- `say_loads::bar_scale` meets its contract: the greatest of what the rows ask is the greatest demand. Assumes nothing.
use mathlib.Core.Path.{ap, ap₂, ◌∙◌}
use native.Mathlib.Omega.{arith}
use Rattle.laws.specs.Most.{greater}
use Rattle.drawing.specs.Loads.{bar_scale}
use Rattle.say_loads.proofs.Ready.{room-few, most-is}
use borrow.Author.Rules.{rules}
use Rattle.say_loads.proofs.bar_scale.Goals as goal

pub overflow_cast-free : goal.overflow_cast-free
overflow_cast-free c = omega (arith, c.requires.2, room-few c.args.site c.requires.0)

pub returns : goal.returns
unfolding bar_scale
returns c = let most = c.most_demand-most.ensures ∙ most-is c.args.site c.requires.0 c.args.clash c.requires.1 c.loaded-who.result c.loaded-who.ensures in
    (c.greater-2.ensures ∙ ap (greater 1) (c.greater.ensures ∙ ap₂ greater c.requires.2 most), search rules)
