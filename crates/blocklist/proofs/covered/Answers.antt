-- `blocklist::covered` meets its contract: the slot, then the channel. Assumes nothing.
use mathlib.Core.Path.{sym, ◌∙◌}
use Rattle.blocklist.proofs.Steps.{covers-no, covers-by}
use Rattle.blocklist.proofs.covered.Goals as goal

pub returns-then-not-in_span : goal.returns-then-not-in_span
returns-then-not-in_span c = let e = c.args in
    covers-no e.channels e.b e.k (sym c.in_span.ensures ∙ c.if-not-in_span.true)

pub returns : goal.returns
returns c = let e = c.args in
    c.in_span-2.ensures ∙ covers-by e.channels e.b e.k (sym c.in_span.ensures ∙ c.if-not-in_span.false)
