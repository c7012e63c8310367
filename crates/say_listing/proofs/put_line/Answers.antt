-- `say_listing::put_line` meets its contract: what is put is the phrase. Assumes nothing.
use mathlib.Core.Path.{refl}
use native.Mathlib.Omega.{arith}
use Rattle.phrases.proofs.Table.{phrase-room, phrase-put}
use Rattle.say_listing.specs.Lines.{listing_lines}
use Rattle.say_listing.proofs.put_line.Goals as goal

pub put_phrase-requires : goal.put_phrase-requires
unfolding listing_lines
put_phrase-requires c = omega (arith, phrase-room 20 listing_lines refl c.args.what)

pub returns : goal.returns
unfolding listing_lines
returns c = phrase-put 20 listing_lines refl c.args.what c.put_phrase.ensures
