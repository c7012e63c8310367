-- `say_picture::put_tail_row` meets its contract: what is put is the phrase. Assumes nothing.
use mathlib.Core.Path.{refl}
use native.Mathlib.Omega.{arith}
use Rattle.phrases.proofs.Table.{phrase-room, phrase-put}
use Rattle.drawing.specs.Picture.{picture_tail}
use Rattle.say_picture.proofs.put_tail_row.Goals as goal

pub put_phrase-requires : goal.put_phrase-requires
unfolding picture_tail
put_phrase-requires c = omega (arith, phrase-room 100 picture_tail refl c.args.what)

pub returns : goal.returns
unfolding picture_tail
returns c = phrase-put 100 picture_tail refl c.args.what c.put_phrase.ensures
