-- `say_find::put` meets its contract: no row is longer than 40 bytes. Assumes nothing.
use mathlib.Core.Path.{refl}
use native.Mathlib.Omega.{arith}
use Rattle.phrases.proofs.Put.{put-wide}
use Rattle.phrases.proofs.Table.{phrase-room}
use Rattle.finds.specs.Lines.{last_lines}
use Rattle.say_find.proofs.put.Goals as goal

pub put_part-requires : goal.put_part-requires
unfolding last_lines
put_part-requires c = omega (arith, phrase-room 40 last_lines refl c.args.what, c.requires)

pub returns : goal.returns
unfolding last_lines
returns c = put-wide 400 (omega (arith, phrase-room 40 last_lines refl c.args.what)) c.put_part.ensures
