-- `say_runs::run_phrase` meets its contract: where a run starts, what is before it and where it ends are looked for. Assumes nothing.
use mathlib.Core.Path.{sym, ap₂, ◌∙◌}
use lib.Dec.{ltb}
use Rattle.say_runs.specs.Runs.{run_before}
use Rattle.say_runs.specs.Said.{span_phrase, run_phrase}
use Rattle.say_runs.proofs.run_phrase.Goals as goal

pub returns-then-not-starts_run : goal.returns-then-not-starts_run
unfolding run_phrase
returns-then-not-starts_run c = rw (sym c.starts_run.ensures ∙ c.if-not-starts_run.true)

pub returns : goal.returns
unfolding run_phrase run_before
returns c = let a = c.args in
    rw (sym c.starts_run.ensures ∙ c.if-not-starts_run.false)
    (c.span_phrase.ensures ∙ ap₂ (λ x y. span_phrase a.rows (ltb x a.i) a.i y) c.first_used.ensures c.run_end-end.ensures.0)
