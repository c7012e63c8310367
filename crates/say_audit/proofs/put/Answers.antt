-- `say_audit::put` meets its contract: what is put is the phrase. Assumes nothing.
use mathlib.Core.Path.{refl}
use native.Mathlib.Omega.{arith}
use Rattle.phrases.proofs.Table.{phrase-room, phrase-put}
use Rattle.say_audit.specs.Lines.{audit_lines}
use Rattle.say_audit.proofs.put.Goals as goal

pub put_phrase-requires : goal.put_phrase-requires
unfolding audit_lines
put_phrase-requires c = omega (arith, phrase-room 70 audit_lines refl c.args.what)

pub returns : goal.returns
unfolding audit_lines
returns c = phrase-put 70 audit_lines refl c.args.what c.put_phrase.ensures
