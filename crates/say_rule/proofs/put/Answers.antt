-- `say_rule::put` meets its contract: what is put is the phrase. Assumes nothing.
use mathlib.Core.Path.{refl}
use native.Mathlib.Omega.{arith}
use Rattle.phrases.proofs.Table.{phrase-room, phrase-put}
use Rattle.say_rule.specs.Lines.{rule_lines}
use Rattle.say_rule.proofs.put.Goals as goal

pub put_phrase-requires : goal.put_phrase-requires
unfolding rule_lines
put_phrase-requires c = omega (arith, phrase-room 70 rule_lines refl c.args.what)

pub returns : goal.returns
unfolding rule_lines
returns c = phrase-put 70 rule_lines refl c.args.what c.put_phrase.ensures
