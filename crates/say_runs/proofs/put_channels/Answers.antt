-- `say_runs::put_channels` meets its contract: the words, and the numbers where they are said. Assumes nothing.
use mathlib.Core.Path.{sym, ◌∙◌}
use Rattle.phrases.proofs.Put.{put_both, put-none}
use Rattle.say_runs.specs.Said.{channels_said}
use Rattle.say_runs.proofs.put_channels.Goals as goal

pub returns-then-not-channels_named : goal.returns-then-not-channels_named
unfolding channels_said
returns-then-not-channels_named c = let words = rw c.channels_phrase.ensures at c.put-first.ensures in
    rw (sym c.channels_named.ensures ∙ c.if-not-channels_named.true) (put_both _ _ words (put-none _ _ 96))

pub returns : goal.returns
unfolding channels_said
returns c = let words = rw c.channels_phrase.ensures at c.put-first.ensures in
    rw (sym c.channels_named.ensures ∙ c.if-not-channels_named.false) (put_both _ _ words c.put_set.ensures)
