-- What each sentence of `duggfrask room` means, row by row: over valid tables, whoever made them, and over what the planner answers. That every sentence that
-- is said of a site is true of it is proofs/Truth.antt.
use Rattle.std.specs.Prelude.{ℕ, ◌+◌, ◌≤◌, ◌<◌, ◌≡◌, true, false, List, [], ◌∷◌}
use Rattle.theory.specs.Net.{Reserved, Valid}
use Rattle.site.specs.Record.{load_at}
use Rattle.site.specs.Reach.{net_of}
use Rattle.site.specs.declared.Site.{Site}
use Rattle.rooms.specs.Room.{with_more}
use Rattle.why.specs.Said.{open_of, some_blocked}
use Rattle.why.specs.Means.{Meaning, meaning_at, Every, NoPlan, Planned, AllOpen, AtLeast, WillDo, AtLeastSlots}
use Rattle.phrases.specs.declared.Phrase.{Phrase}
use Rattle.phrases.specs.declared.Phrase.TheVariants.{Silent, Row}

-- a plan exists
abbrev pub HasPlan : Site → Type 0
HasPlan s = (res : Reserved) × Valid (net_of s) res

-- a cell of the site, by its number, with its load
abbrev pub NamesCell : Site → (cell load : ℕ) → Type 0
NamesCell s cell load = (i : ℕ) × (cell ≡ i + 1) × (i < s.cells) × (load ≡ load_at s i)

-- `m more`: with so much more, and with less, a plan exists
abbrev pub Carries : Site → (cell m : ℕ) → Type 0
Carries s cell m = (l : ℕ) → l ≤ m → HasPlan (with_more s cell l)

-- `no more than that`: with more no plan exists
abbrev pub CarriesNoMore : Site → (cell m : ℕ) → Type 0
CarriesNoMore s cell m = (l : ℕ) → m < l → NoPlan (with_more s cell l)

-- `n slots will do`: with the site's channels and so many slots, or more, and nothing blocked, it is planned
abbrev pub SlotsPlan : Site → ℕ → Type 0
SlotsPlan s n = Every s (λ o. AllOpen o → o.channels ≡ s.channels → n ≤ o.slots → Planned o)

-- `with fewer than n`: slots, or open channel-slots where something is blocked
abbrev pub Fewer : Site → ℕ → Type 0
Fewer s n = (some_blocked s ≡ true → AtLeast s n) × (some_blocked s ≡ false → AtLeastSlots s n)

-- row by row, in the order of specs/Lines.antt: what a sentence with the values a, b, c, d says of the site
abbrev pub room_meanings : Site → List Meaning
room_meanings s =
    -- `cell @1, load @2: @3 more, and no more than that`
    (λ cell load m d. NamesCell s cell load × Carries s cell m × CarriesNoMore s cell m)
    -- `cell @1, load @2: no more`
    ∷ (λ cell load c d. NamesCell s cell load × CarriesNoMore s cell 0)
    -- `cell @1, load @2: at least @3 more`
    ∷ (λ cell load m d. NamesCell s cell load × Carries s cell m)
    -- `full ..: no cell can carry more`
    ∷ (λ a b c d. NoPlan s × ((i : ℕ) → i < s.cells → (l : ℕ) → NoPlan (with_more s (i + 1) l)))
    -- `not known ..: whether it has a plan`: nothing is said
    ∷ (λ a b c d. Unit {0})
    -- `slots: @1 will do, @2 fewer than it has`
    ∷ (λ n less c d. (n + less ≡ s.slots) × AllOpen s × SlotsPlan s n)
    -- `slots: @1 will do, as many as it has`
    ∷ (λ n b c d. (n ≡ s.slots) × AllOpen s × HasPlan s)
    -- `slots: @1 will do, @2 more than it has`
    ∷ (λ n more c d. (n ≡ s.slots + more) × AllOpen s × SlotsPlan s n)
    -- `open channel-slots: @1 will do, @2 fewer than it has`
    ∷ (λ n less c d. (n + less ≡ open_of s) × WillDo s n)
    -- `open channel-slots: @1 will do, as many as it has`
    ∷ (λ n b c d. (n ≡ open_of s) × HasPlan s)
    -- `open channel-slots: @1 will do, @2 more than it has`
    ∷ (λ n more c d. (n ≡ open_of s + more) × WillDo s n)
    -- the line's end
    ∷ (λ a b c d. Unit {0})
    -- `; with fewer no plan exists`: than this number, which was said
    ∷ (λ n b c d. Fewer s n)
    -- `; with fewer than @1 no plan exists`
    ∷ (λ n b c d. Fewer s n)
    -- `slots: with fewer than @1 no plan exists`
    ∷ (λ n b c d. AllOpen s × AtLeastSlots s n)
    -- `slots: 128, the most that a site has, are too few`
    ∷ (λ a b c d. AllOpen s × AtLeastSlots s 129)
    ∷ []

abbrev pub RoomMeans : Site → Phrase → Type 0
RoomMeans s Silent = Unit {0}
RoomMeans s (Row k a b c d) = meaning_at (room_meanings s) k a b c d
