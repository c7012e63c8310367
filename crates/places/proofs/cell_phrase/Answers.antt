-- `places::cell_phrase` meets its contract: the tests that led to each return decide the case. Assumes nothing.
use mathlib.Core.Path.{◌≡◌, sym, ◌∙◌}
use mathlib.Core.Bool.{true, false}
use native.Mathlib.Omega.{arith}
use lib.Dec.{ltb}
use borrow.Author.Tests.{lt-ltb, le-ltb}
use Rattle.laws.specs.Bits.{bit_at}
use Rattle.laws.specs.Search.{first}
use Rattle.places.specs.Places.{sent_phrase}
use Rattle.places.proofs.cell_phrase.Goals as goal

pub returns-then-not-has : goal.returns-then-not-has
unfolding sent_phrase
returns-then-not-has c = rw (sym c.has.ensures ∙ c.if-not-has.true)

pub returns-then-lowest-i : goal.returns-then-lowest-i
unfolding sent_phrase
returns-then-lowest-i c = let a = c.args in
    let low = first (bit_at a.word) 0 32 in
    let below : ltb low a.i ≡ true = lt-ltb low a.i (omega (arith, c.lowest.ensures, c.if-lowest-i.true)) in
    rw (sym c.has.ensures ∙ c.if-not-has.false, below)

pub returns : goal.returns
unfolding sent_phrase
returns c = let a = c.args in
    let low = first (bit_at a.word) 0 32 in
    let below : ltb low a.i ≡ false = le-ltb low a.i (omega (arith, c.lowest.ensures, c.if-lowest-i.false)) in
    rw (sym c.has.ensures ∙ c.if-not-has.false, below)
