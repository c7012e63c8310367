-- `blocklist::read_span` meets its contract: a star, a number, or two. Assumes nothing.
use mathlib.Core.Path.{◌∙◌}
use Rattle.blocklist.proofs.Steps.{span-star, span-one, span-two}
use Rattle.blocklist.proofs.read_span.Goals as goal

pub returns-then-star : goal.returns-then-star
returns-then-star c = span-star _ _ _ c.eat-star.result c.eat-star.ensures c.if-star.true

pub returns-then-dash : goal.returns-then-dash
returns-then-dash c = c.span_of.ensures
    ∙ span-one _ _ _ c.eat-star.result c.eat-star.ensures c.if-star.false c.read_number-a.result c.read_number-a.ensures
    c.eat-dash.result c.eat-dash.ensures c.if-dash.true

pub returns : goal.returns
returns c = c.span_of-2.ensures
    ∙ span-two _ _ _ c.eat-star.result c.eat-star.ensures c.if-star.false c.read_number-a.result c.read_number-a.ensures
    c.eat-dash.result c.eat-dash.ensures c.if-dash.false c.read_number-b.result c.read_number-b.ensures
