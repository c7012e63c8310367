-- `say_sheets::put_line_fault` meets its contract: what is put is the phrase of the reason. Assumes nothing.
use mathlib.Core.Path.{refl}
use native.Mathlib.Omega.{arith}
use Rattle.phrases.specs.declared.Phrase.TheVariants.{Row}
use Rattle.phrases.proofs.Table.{phrase-room, phrase-put}
use Rattle.say_sheets.specs.Lines.{line_fault_lines}
use Rattle.say_sheets.proofs.put_line_fault.Goals as goal

pub put_phrase-requires : goal.put_phrase-requires
unfolding line_fault_lines
put_phrase-requires c = let w = c.fault_row-row.result in
    omega (arith, phrase-room 100 line_fault_lines refl (Row w.0 c.args.line w.1 0 0))

pub returns : goal.returns
unfolding line_fault_lines
returns c = let w = c.fault_row-row.result in
    rw c.fault_row-row.ensures at (phrase-put 100 line_fault_lines refl (Row w.0 c.args.line w.1 0 0) c.put_phrase.ensures)
