-- The runs of some rows, computed letter by letter. Assumes nothing.
use mathlib.Core.Path.{◌≡◌, refl}
use mathlib.Core.List.{[], ◌∷◌}
use Rattle.laws.specs.Part.{list_of}
use Rattle.laws.specs.Search.{first_of}
use Rattle.faults.specs.Faults.{in_turn}
use Rattle.text.specs.Decimal.{digits_of, decimal}
use Rattle.speech.specs.Speech.{bytes, spoken}
use Rattle.say_runs.specs.Lines.{run_lines}
use Rattle.say_runs.specs.Runs.{starts_run, run_stop, run_before}
use Rattle.say_runs.specs.Said.{span_phrase, run_phrase, channels_said, run_said, runs_said}

-- the issue's own: 2 channels, all of them in the first three slots, and the first in the fourth
issue : runs_said 2 (3 ∷ 3 ∷ 3 ∷ 1 ∷ 0 ∷ []) ≡ bytes " slots 1-3 all channels, slot 4 channel 1"
unfolding list_of first_of in_turn run_lines starts_run run_stop run_before span_phrase run_phrase channels_said run_said spoken decimal digits_of
issue = refl

-- 8 channels: 1 to 3 and 5, then the same no more, and again after a pause
several : runs_said 8 (23 ∷ 23 ∷ 192 ∷ 0 ∷ 192 ∷ []) ≡ bytes " slots 1-2 channels 1-3+5, slot 3 channels 7-8, slot 5 channels 7-8"
unfolding list_of first_of in_turn run_lines starts_run run_stop run_before span_phrase run_phrase channels_said run_said spoken decimal digits_of
several = refl

-- one channel
lone : runs_said 1 (0 ∷ 1 ∷ 1 ∷ []) ≡ bytes " slots 2-3"
unfolding list_of first_of in_turn run_lines starts_run run_stop run_before span_phrase run_phrase channels_said run_said spoken decimal digits_of
lone = refl
