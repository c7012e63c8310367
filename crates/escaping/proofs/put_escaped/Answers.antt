-- `escaping::put_escaped` meets its contract. The invariant: what is left of the text, escaped and stored from here on, gives the whole.
-- It has room, since an escaped text is at most six times as long as the text. Assumes nothing.
use Rattle.std.proofs.Common.{◌≡◌, ◌-◌, ◌∙◌, arith, drop}
use lib.Dec.{eqb}
use lib.ListN.{get_or}
use Rattle.laws.specs.Choice.{pick}
use Rattle.text.proofs.Writing.{said, stored, ended}
use Rattle.phrases.proofs.Put.{put_of}
use Rattle.escaping.specs.Letters.{stretch}
use Rattle.escaping.specs.Escaped.{reference}
use Rattle.escaping.proofs.Steps.{from-here, escape-next, escape_end, escaped-long}
use Rattle.escaping.proofs.put_escaped.Goals as goal

pub loop-i-preserved : goal.loop-i-preserved
loop-i-preserved c = let text = c.args.text.now in
    let l = c.loop-i in
    let here = stretch l.left (drop l.i text) in
    let e : c.letter_here-size.result ≡ here = c.letter_here-size.ensures ∙ from-here l.left text l.i in
    let byte : c.letter_byte.result ≡ pick (eqb here 0) 63 (get_or text l.i 0) = rw e at c.letter_byte.ensures in
    let put = rw byte at c.put_reference-next.ensures in
    let part = reference (pick (eqb here 0) 63 (get_or text l.i 0)) in
    let less : c.saturating_sub-left.result ≡ here - 1 = rw e at c.saturating_sub-left.ensures in
    let w = said (escape-next l.left text l.i c.loop-i-test.true) l.invariant.1 in
    (omega (arith, put.follows, put.short, l.invariant.0), rw less (stored part _ w put.stored put.follows))

pub returns : goal.returns
returns c = let l = c.loop-i in
    let text = c.args.text.now in
    let w = ended (said (escape_end l.left text l.i c.loop-i-test.false) l.invariant.1) in
    put_of _ w.0 w.1 (omega (arith, w.1, escaped-long text))
