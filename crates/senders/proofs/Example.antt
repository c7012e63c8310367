-- Lines read by hand, computed letter by letter. Assumes nothing.
use mathlib.Core.Path.{◌≡◌, refl}
use mathlib.Core.Bool.{true, false}
use mathlib.Core.List.{List, [], ◌∷◌}
use Rattle.speech.specs.Speech.{bytes}
use Rattle.senders.specs.Read.{runs_read_from, runs_told, some_in, past_colon, line_has}

-- the issue's own runs, and one with several ranges of channels
runs : runs_told (bytes " slots 1-3 all channels, slot 4 channel 1, slots 5-128 channels 1-3+5\n")
    ≡ ((1, 3) ∷ []) ∷ ((4, 4) ∷ (1, 1) ∷ []) ∷ ((5, 128) ∷ (1, 3) ∷ (5, 5) ∷ []) ∷ []
unfolding runs_read_from
runs = refl

-- a run that names no channels has every one
every : line_has 3 16 (bytes "cell 12: slots 1-3 all channels, slot 4 channel 1\n") ≡ true
unfolding past_colon runs_read_from some_in
every = refl

-- one that names some has no other
named : line_has 4 2 (bytes "cell 12: slots 1-3 all channels, slot 4 channel 1\n") ≡ false
unfolding past_colon runs_read_from some_in
named = refl

-- the number of the cell is no slot
number : line_has 12 1 (bytes "cell 12: slots 1-3 all channels, slot 4 channel 1\n") ≡ false
unfolding past_colon runs_read_from some_in
number = refl

-- a cell that sends nowhere
nowhere : line_has 5 1 (bytes "cell 5 sends nowhere\n") ≡ false
unfolding past_colon runs_read_from some_in
nowhere = refl

-- one channel
lone : line_has 2 1 (bytes "  clashes: slots 2-3\n") ≡ true
unfolding past_colon runs_read_from some_in
lone = refl
