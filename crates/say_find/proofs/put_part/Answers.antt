-- `say_find::put_part` meets its contract: what is put is the phrase. Assumes nothing.
use mathlib.Core.Path.{refl}
use native.Mathlib.Omega.{arith}
use Rattle.phrases.proofs.Table.{phrase-put}
use Rattle.finds.specs.Lines.{last_lines}
use Rattle.say_find.proofs.put_part.Goals as goal

pub put_phrase-requires : goal.put_phrase-requires
unfolding last_lines
put_phrase-requires c = c.requires

pub returns : goal.returns
unfolding last_lines
returns c = let e = c.put_phrase.ensures in
    let p = phrase-put 40 last_lines refl c.args.what e in
    record { stored = p.stored; follows = p.follows; short = omega (arith, p.follows, e.follows, e.short) }
