-- `say_runs::put` meets its contract: what is put is the phrase. Assumes nothing.
use mathlib.Core.Path.{refl}
use native.Mathlib.Omega.{arith}
use Rattle.phrases.proofs.Table.{phrase-room, phrase-put}
use Rattle.say_runs.specs.Lines.{run_lines}
use Rattle.say_runs.proofs.put.Goals as goal

pub put_phrase-requires : goal.put_phrase-requires
unfolding run_lines
put_phrase-requires c = omega (arith, phrase-room 13 run_lines refl c.args.what)

pub returns : goal.returns
unfolding run_lines
returns c = phrase-put 13 run_lines refl c.args.what c.put_phrase.ensures
