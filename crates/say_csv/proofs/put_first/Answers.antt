-- `say_csv::put_first` meets its contract: what is put is the row. Assumes nothing.
use mathlib.Core.Path.{refl}
use native.Mathlib.Omega.{arith}
use Rattle.phrases.specs.declared.Phrase.TheVariants.{Row}
use Rattle.phrases.proofs.Table.{phrase-room, phrase-put}
use Rattle.say_csv.specs.Lines.{csv_first}
use Rattle.say_csv.proofs.put_first.Goals as goal

pub put_phrase-requires : goal.put_phrase-requires
unfolding csv_first
put_phrase-requires c = omega (arith, phrase-room 110 csv_first refl (Row 0 0 0 0 0))

pub returns : goal.returns
unfolding csv_first
returns c = phrase-put 110 csv_first refl (Row 0 0 0 0 0) c.put_phrase.ensures
