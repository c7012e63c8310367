-- `say_runs::put_run` meets its contract: the slots, and their channels where a run starts. Assumes nothing.
use mathlib.Core.Path.{sym, ◌∙◌}
use Rattle.phrases.proofs.Put.{put_both, put-none}
use Rattle.say_runs.specs.Said.{run_said}
use Rattle.say_runs.proofs.put_run.Goals as goal

pub returns-then-not-starts_run : goal.returns-then-not-starts_run
unfolding run_said
returns-then-not-starts_run c = let slots = rw c.run_phrase.ensures at c.put-first.ensures in
    rw (sym c.starts_run.ensures ∙ c.if-not-starts_run.true) (put_both _ _ slots (put-none _ _ 226))

pub returns : goal.returns
unfolding run_said
returns c = let slots = rw c.run_phrase.ensures at c.put-first.ensures in
    rw (sym c.starts_run.ensures ∙ c.if-not-starts_run.false) (put_both _ _ slots c.put_channels.ensures)
