-- `say_diff::put_change_count` meets its contract: what is put is the phrase. Assumes nothing.
use mathlib.Core.Path.{refl}
use native.Mathlib.Omega.{arith}
use Rattle.phrases.proofs.Table.{phrase-room, phrase-put}
use Rattle.say_diff.specs.Lines.{diff_lines}
use Rattle.say_diff.proofs.put_change_count.Goals as goal

pub put_phrase-requires : goal.put_phrase-requires
unfolding diff_lines
put_phrase-requires c = omega (arith, phrase-room 20 diff_lines refl c.diff_phrase-what.result)

pub returns : goal.returns
unfolding diff_lines
returns c = let w = c.diff_phrase-what in
    rw w.ensures at (phrase-put 20 diff_lines refl w.result c.put_phrase.ensures)
