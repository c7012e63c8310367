-- `say_picture::put_head_row` meets its contract: what is put is the phrase. Assumes nothing.
use mathlib.Core.Path.{refl}
use native.Mathlib.Omega.{arith}
use Rattle.phrases.proofs.Table.{phrase-room, phrase-put}
use Rattle.drawing.specs.Picture.{picture_head}
use Rattle.say_picture.proofs.put_head_row.Goals as goal

pub put_phrase-requires : goal.put_phrase-requires
unfolding picture_head
put_phrase-requires c = omega (arith, phrase-room 100 picture_head refl c.args.what)

pub returns : goal.returns
unfolding picture_head
returns c = phrase-put 100 picture_head refl c.args.what c.put_phrase.ensures
