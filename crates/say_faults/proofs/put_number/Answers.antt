-- `say_faults::put_number` meets its contract: what is put is the phrase. Assumes nothing.
use mathlib.Core.Path.{refl}
use native.Mathlib.Omega.{arith}
use Rattle.phrases.specs.declared.Phrase.TheVariants.{Row}
use Rattle.phrases.proofs.Table.{phrase-room, phrase-put}
use Rattle.say_faults.specs.Lines.{fault_lines, things_row}
use Rattle.say_faults.proofs.put_number.Goals as goal

pub put_phrase-requires : goal.put_phrase-requires
unfolding fault_lines
put_phrase-requires c = omega (arith, phrase-room 30 fault_lines refl (Row things_row c.args.number 0 0 0))

pub returns : goal.returns
unfolding fault_lines
returns c = phrase-put 30 fault_lines refl (Row things_row c.args.number 0 0 0) c.put_phrase.ensures
