-- `say_runs::channels_phrase` meets its contract: a case for each way out. Assumes nothing.
use mathlib.Core.Path.{sym, ◌∙◌}
use borrow.Author.Tests.{eq-eqb, ne_eqb}
use Rattle.say_runs.proofs.channels_phrase.Goals as goal

pub returns-then-channels-eq1 : goal.returns-then-channels-eq1
returns-then-channels-eq1 c = rw (eq-eqb c.args.channels 1 c.if-channels-eq1.true)

pub returns-then-has_all : goal.returns-then-has_all
returns-then-has_all c = rw (ne_eqb c.args.channels 1 c.if-channels-eq1.false, sym c.has_all.ensures ∙ c.if-has_all.true)

pub returns-then-has_one : goal.returns-then-has_one
returns-then-has_one c = rw (
  ne_eqb c.args.channels 1 c.if-channels-eq1.false,
  sym c.has_all.ensures ∙ c.if-has_all.false,
  sym c.has_one.ensures ∙ c.if-has_one.true,
)

pub returns : goal.returns
returns c = rw (
  ne_eqb c.args.channels 1 c.if-channels-eq1.false,
  sym c.has_all.ensures ∙ c.if-has_all.false,
  sym c.has_one.ensures ∙ c.if-has_one.false,
)
