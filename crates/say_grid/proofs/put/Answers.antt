-- `say_grid::put` meets its contract: what is put is the phrase. Assumes nothing.
use mathlib.Core.Path.{refl}
use native.Mathlib.Omega.{arith}
use Rattle.phrases.proofs.Table.{phrase-room, phrase-put}
use Rattle.say_grid.specs.Lines.{grid_lines}
use Rattle.say_grid.proofs.put.Goals as goal

pub put_phrase-requires : goal.put_phrase-requires
unfolding grid_lines
put_phrase-requires c = omega (arith, phrase-room 50 grid_lines refl c.args.what)

pub returns : goal.returns
unfolding grid_lines
returns c = phrase-put 50 grid_lines refl c.args.what c.put_phrase.ensures
