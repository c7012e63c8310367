-- `say_csv::put` meets its contract: what is put is the phrase. Assumes nothing.
use mathlib.Core.Path.{refl}
use native.Mathlib.Omega.{arith}
use Rattle.phrases.proofs.Table.{phrase-room, phrase-put}
use Rattle.say_csv.specs.Lines.{csv_lines}
use Rattle.say_csv.proofs.put.Goals as goal

pub put_phrase-requires : goal.put_phrase-requires
unfolding csv_lines
put_phrase-requires c = omega (arith, phrase-room 40 csv_lines refl c.args.what)

pub returns : goal.returns
unfolding csv_lines
returns c = phrase-put 40 csv_lines refl c.args.what c.put_phrase.ensures
