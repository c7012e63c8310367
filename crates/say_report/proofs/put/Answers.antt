-- `say_report::put` meets its contract: what is put is the phrase. Assumes nothing.
use mathlib.Core.Path.{refl}
use native.Mathlib.Omega.{arith}
use Rattle.phrases.proofs.Table.{phrase-room, phrase-put}
use Rattle.say_report.specs.Lines.{report_lines}
use Rattle.say_report.proofs.put.Goals as goal

pub put_phrase-requires : goal.put_phrase-requires
unfolding report_lines
put_phrase-requires c = omega (arith, phrase-room 300 report_lines refl c.args.what)

pub returns : goal.returns
unfolding report_lines
returns c = phrase-put 300 report_lines refl c.args.what c.put_phrase.ensures
