-- `say_why::put` meets its contract: no row is longer than 150 bytes. Assumes nothing.
use mathlib.Core.Path.{refl}
use native.Mathlib.Omega.{arith}
use Rattle.phrases.proofs.Put.{put-wide}
use Rattle.phrases.proofs.Table.{phrase-room}
use Rattle.why.specs.Lines.{why_lines}
use Rattle.say_why.proofs.put.Goals as goal

pub put_line-requires : goal.put_line-requires
unfolding why_lines
put_line-requires c = omega (arith, phrase-room 150 why_lines refl c.args.what, c.requires)

pub returns : goal.returns
unfolding why_lines
returns c = put-wide 1500 (omega (arith, phrase-room 150 why_lines refl c.args.what)) c.put_line.ensures
