-- `say_why::put_line` meets its contract: what is put is the phrase. Assumes nothing.
use mathlib.Core.Path.{refl}
use native.Mathlib.Omega.{arith}
use Rattle.phrases.proofs.Table.{phrase-put}
use Rattle.why.specs.Lines.{why_lines}
use Rattle.say_why.proofs.put_line.Goals as goal

pub put_phrase-requires : goal.put_phrase-requires
unfolding why_lines
put_phrase-requires c = c.requires

pub returns : goal.returns
unfolding why_lines
returns c = let e = c.put_phrase.ensures in
    let p = phrase-put 150 why_lines refl c.args.what e in
    record { stored = p.stored; follows = p.follows; short = omega (arith, p.follows, e.follows, e.short) }
