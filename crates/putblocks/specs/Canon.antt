-- The list of a set of positions: for each run of slots with the same channels in the set, the runs of those channels.
-- Slots and channels are counted from 0 here.
use Rattle.std.specs.Prelude.{ℕ, zero, suc, ◌+◌, ◌*◌, ◌&&◌, not, List, [], ◌∷◌, ◌++◌, ltb, eqb}
use Rattle.laws.specs.Bits.{bit_at, word_of}
use Rattle.laws.specs.Choice.{pick}
use Rattle.laws.specs.Search.{first}
use Rattle.positions.specs.Blocked.{blocked_at}
use Rattle.blocklist.specs.Format.{Side, all, one, range, Item, list_text}

-- the channels of slot t that are in the set, as a word
unfoldable pub slot_word : List ℕ → ℕ → ℕ → ℕ
slot_word words channels t = word_of (λ f. blocked_at words (t * channels + f)) channels

-- the numbers a to b of 1 to `most`, said as shortly as can be
abbrev pub side_for : ℕ → ℕ → ℕ → Side
side_for most a b = pick (eqb a 1 && eqb b most) all (pick (eqb a b) (one a) (range a b))

-- the first channel from f on that is in the word x, and the first after it that is not
unfoldable pub run_start : ℕ → ℕ → ℕ → ℕ
run_start channels x f = first (bit_at x) f channels

unfoldable pub run_end : ℕ → ℕ → ℕ → ℕ
run_end channels x f = first (λ g. not (bit_at x g)) (run_start channels x f) channels

-- an item for each run of channels from f on, at most n of them
unfoldable pub runs_from : ℕ → Side → ℕ → ℕ → ℕ → List Item
runs_from zero side channels x f = []
runs_from (suc n) side channels x f =
    pick (ltb (run_start channels x f) channels)
    (record { slots = side; channels = side_for channels (run_start channels x f + 1) (run_end channels x f) } ∷ runs_from n side channels x
    (run_end channels x f))
    []

-- the first slot after t whose channels are others
unfoldable pub slots_end : List ℕ → ℕ → ℕ → ℕ → ℕ
slots_end words slots channels t = first (λ u. not (eqb (slot_word words channels u) (slot_word words channels t))) (t + 1) slots

-- the items of the slots from t on, at most n runs of them
unfoldable pub slots_from : ℕ → List ℕ → ℕ → ℕ → ℕ → List Item
slots_from zero words slots channels t = []
slots_from (suc n) words slots channels t = let u = slots_end words slots channels t in
    pick (ltb t slots)
    (runs_from channels (side_for slots (t + 1) u) channels (slot_word words channels t) 0 ++ slots_from n words slots channels u)
    []

-- "lists them in the form of LIST, so that what a site file holds can be seen and typed again"
abbrev pub blocked_items : List ℕ → ℕ → ℕ → List Item
blocked_items words slots channels = slots_from slots words slots channels 0

abbrev pub blocked_text : List ℕ → ℕ → ℕ → List ℕ
blocked_text words slots channels = list_text (blocked_items words slots channels)
