-- `say_flows::put_split` meets its contract: what is put is the phrase. Assumes nothing.
use mathlib.Core.Path.{refl}
use native.Mathlib.Omega.{arith}
use Rattle.phrases.specs.declared.Phrase.TheVariants.{Row}
use Rattle.phrases.proofs.Table.{phrase-room, phrase-put}
use Rattle.say_flows.specs.Lines.{nineteen_lines, nineteen_row}
use Rattle.say_flows.proofs.put_split.Goals as goal

pub put_phrase-requires : goal.put_phrase-requires
unfolding nineteen_lines
put_phrase-requires c = let a = c.args in
    omega (arith, phrase-room 200 nineteen_lines refl (Row nineteen_row a.a a.b a.i 0))

pub returns : goal.returns
unfolding nineteen_lines
returns c = let a = c.args in
    phrase-put 200 nineteen_lines refl (Row nineteen_row a.a a.b a.i 0) c.put_phrase.ensures
