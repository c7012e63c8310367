-- Lists of sets, computed: a plant's Wi-Fi in every slot is one item. Assumes nothing.
use mathlib.Core.List.{[], ◌∷◌}
use mathlib.Core.Path.{◌≡◌, refl}
use Rattle.laws.specs.Bits.{word_of}
use Rattle.laws.specs.Search.{first_of}
use Rattle.laws.specs.Sum.{sum}
use Rattle.blocklist.specs.Format.{all, one, range}
use Rattle.putblocks.specs.Canon.{slot_word, run_start, run_end, runs_from, slots_end, slots_from, blocked_items}

-- with 3 slots and 4 channels, position k is bit k: channels 2 and 3 of every slot are 6 * (1 + 16 + 256)
pub every-slot : blocked_items (1638 ∷ []) 3 4 ≡ record { slots = all; channels = range 2 3 } ∷ []
unfolding slots_from slots_end runs_from run_start run_end slot_word word_of sum first_of
every-slot = refl

-- slots 1 and 2 with channels 1 and 3, and slot 3 with all
pub two_runs :
    blocked_items (3925 ∷ []) 3 4
    ≡ record { slots = range 1 2; channels = one 1 } ∷ record { slots = range 1 2; channels = one 3 } ∷ record { slots = one 3; channels = all } ∷ []
unfolding slots_from slots_end runs_from run_start run_end slot_word word_of sum first_of
two_runs = refl
