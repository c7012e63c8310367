-- What each sentence of `duggfrask why` means, row by row: over valid tables, whoever made them, and over what the planner answers. That every
-- sentence that is said of a site is true of it is the theorem `why-true`, proofs/Truth.antt; of the line of what is blocked it is `blocked-true`,
-- proofs/Listed.antt.
use Rattle.std.specs.Prelude.{ℕ, zero, suc, ◌+◌, ◌≤◌, ◌<◌, ◌≡◌, true, List, [], ◌∷◌, length, Ok, Err}
use Rattle.laws.specs.Bits.{bit_at}
use Rattle.theory.specs.Net.{Reserved, Valid, LoadTest, Chained, Class}
use Rattle.theory.specs.Full.{weight}
use Rattle.theory.specs.Named.{FirstOver, FirstBreaks, FirstSplits}
use Rattle.theory.specs.Greedy.{reserved}
use Rattle.site.specs.Alike.{Alike}
use Rattle.site.specs.Record.{load_at, positions, size, fault_of}
use Rattle.site.specs.Reach.{net_of}
use Rattle.site.specs.declared.Site.{Site}
use Rattle.planner.specs.Plan.{plan_answer, plan_table}
use Rattle.planner.specs.declared.PlanError.TheVariants.{NoRoom}
use Rattle.judges.specs.Judges.{counted}
use Rattle.heaviest.specs.Sets.{heaviest_set, Heaviest}
use Rattle.blocklist.specs.Read.{fine_list, read_list}
use Rattle.phrases.specs.declared.Phrase.{Phrase}
use Rattle.phrases.specs.declared.Phrase.TheVariants.{Silent, Row}
use Rattle.why.specs.Said.{open_of}

-- `no plan exists`: no table at all is valid, whoever made it
abbrev pub NoPlan : Site → Type 0
NoPlan s = (res : Reserved) → Valid (net_of s) res → ⊥

-- `planned`: in every table that is long enough the planner is done, and leaves a valid table there
abbrev pub Planned : Site → Type 0
Planned s = (table : List ℕ) → size s ≤ length table → (plan_answer s table ≡ Ok tt) × Valid (net_of s) (reserved (positions s) (plan_table s table))

-- `not planned: cell .. is .. short`: so the planner answers in every table that is long enough
abbrev pub Short : Site → (cell short : ℕ) → Type 0
Short s cell short = (table : List ℕ) → size s ≤ length table → plan_answer s table ≡ Err (NoRoom cell short)

abbrev pub ChainHolds : Site → Type 0
ChainHolds s = Chained (net_of s) (counted s)

-- `nested`: W9: "every loaded cell's loaded, lower-numbered clashing cells clash with one another"
abbrev pub NestedHolds : Site → Type 0
NestedHolds s = Class (net_of s) (counted s)

-- `cell .. is over by ..`: the lowest cell that is
abbrev pub Over : Site → (cell excess : ℕ) → Type 0
Over s cell excess = (i : ℕ) × (cell ≡ i + 1) × FirstOver (net_of s) (counted s) i excess

-- `cells a and c clash, and cell b between them does not clash with cell a`: the first such triple
abbrev pub Broken : Site → (a b c : ℕ) → Type 0
Broken s a b c = (x y z : ℕ) × (a ≡ x + 1) × (b ≡ y + 1) × (c ≡ z + 1) × FirstBreaks (net_of s) (counted s) x y z

-- `cells a and b clash with cell i, and not with one another`: the first such triple
abbrev pub Split : Site → (a b i : ℕ) → Type 0
Split s a b i = (x y z : ℕ) × (a ≡ x + 1) × (b ≡ y + 1) × (i ≡ z + 1) × FirstSplits (net_of s) (counted s) x y z

-- ---- numbers of channel-slots, on sites that differ in slots, channels and blocked positions alone. What counts are the open ones

-- what is said of every accepted site with the same cells, loads and reach
abbrev pub Every : Site → (Site → Type 0) → Type 0
Every s P = (other : Site) → Alike other s → fault_of other ≡ Ok tt → P other

-- `at least n`: with fewer no plan exists
abbrev pub AtLeast : Site → ℕ → Type 0
AtLeast s n = Every s (λ o. open_of o < n → NoPlan o)

-- `n will do`: with so many, or more, the site is planned
abbrev pub WillDo : Site → ℕ → Type 0
WillDo s n = Every s (λ o. n ≤ open_of o → Planned o)

-- nothing is blocked
abbrev pub AllOpen : Site → Type 0
AllOpen s = open_of s ≡ positions s

-- `the site has n`: so many in all, and all are open
abbrev pub Has : Site → ℕ → Type 0
Has s n = (n ≡ positions s) × AllOpen s

-- `the site has n open`: and others are blocked
abbrev pub HasOpen : Site → ℕ → Type 0
HasOpen s n = (n ≡ open_of s) × (n < positions s)

-- `with f channels`: the site's own, and nothing is blocked there
abbrev pub WithChannels : Site → ℕ → Type 0
WithChannels s f = (f ≡ s.channels) × AllOpen s

abbrev pub WithSlots : Site → ℕ → Type 0
WithSlots s f = (f ≡ s.slots) × AllOpen s

-- `at least n slots`: with the same channels and fewer slots no plan exists; so a planned site has as many
abbrev pub AtLeastSlots : Site → ℕ → Type 0
AtLeastSlots s n = Every s (λ o. o.channels ≡ s.channels → o.slots < n → NoPlan o)

abbrev pub AtLeastChannels : Site → ℕ → Type 0
AtLeastChannels s n = Every s (λ o. o.slots ≡ s.slots → o.channels < n → NoPlan o)

-- `n slots will do`: with the same channels and so many slots, or more, and nothing blocked, the site is planned; and never more than the site has where it is
-- planned
pub record SlotsDo (s : Site) (n : ℕ) : Type 0 where
  pub plans : Every s (λ o. AllOpen o → o.channels ≡ s.channels → n ≤ o.slots → Planned o)
  pub own : Planned s → n ≤ s.slots

pub record ChannelsDo (s : Site) (n : ℕ) : Type 0 where
  pub plans : Every s (λ o. AllOpen o → o.slots ≡ s.slots → n ≤ o.channels → Planned o)
  pub own : Planned s → n ≤ s.channels

-- `blocked: LIST`: the list, typed for a site with these slots and channels, gives its blocked positions and no other
abbrev pub Lists : Site → List ℕ → Type 0
Lists s text = read_list text s.slots s.channels ≡ fine_list s.blocked

-- ---- the heaviest clash

-- the set of all cells that clash with one another which needs the most
abbrev pub set : Site → ℕ
set s = heaviest_set (net_of s)

-- its load is l
abbrev pub Most : Site → ℕ → Type 0
Most s l = Heaviest (net_of s) (set s) × (weight (net_of s) (bit_at (set s)) ≡ l)

-- `cell .., load ..`: a cell of that set, with its load
abbrev pub InSet : Site → (cell load : ℕ) → Type 0
InSet s cell load = (i : ℕ) × (cell ≡ i + 1) × (i < s.cells) × (bit_at (set s) i ≡ true) × (load ≡ load_at s i)

-- ---- row by row, in the order of specs/Lines.antt: what a sentence with the values a, b, c, d says of the site

abbrev pub Meaning : Type 1
Meaning = (a b c d : ℕ) → Type 0

abbrev pub meanings : Site → List Meaning
meanings s =
    -- `chained`
    (λ a b c d. ChainHolds s)
    -- `not chained: cells @1 and @3 clash, and cell @2 between them does not clash with cell @1`
    ∷ (λ a b c d. Broken s a b c)
    -- `the load test holds`
    ∷ (λ a b c d. LoadTest (net_of s) (counted s))
    -- `the load test fails: cell @1 is over by @2 fragments`
    ∷ (λ cell excess c d. NestedHolds s × Over s cell excess × NoPlan s)
    -- `..; on a site that is not nested that alone decides nothing`
    ∷ (λ cell excess c d. (NestedHolds s → ⊥) × Over s cell excess)
    -- `planned`
    ∷ (λ a b c d. Planned s)
    -- `not planned: cell @1 is @2 fragments short. The site is full: no plan exists`
    ∷ (λ cell short c d. Short s cell short × NoPlan s)
    -- `not planned: cell @1 is @2 fragments short. This order found no room, which alone decides nothing`
    ∷ (λ cell short c d. Short s cell short × (NestedHolds s → ⊥) × (weight (net_of s) (bit_at (set s)) ≤ open_of s))
    -- `it takes @1 channel-slots, and no fewer; the site has @2`
    ∷ (λ n has c d. AtLeast s n × WillDo s n × Has s has)
    -- `..; the site has @2 open`
    ∷ (λ n has c d. AtLeast s n × WillDo s n × HasOpen s has)
    -- `it takes at least @1 channel-slots, and @2 will do; the site has @3`
    ∷ (λ l u has d. AtLeast s l × WillDo s u × Has s has)
    -- `..; the site has @3 open`
    ∷ (λ l u has d. AtLeast s l × WillDo s u × HasOpen s has)
    -- `of all cells that clash with one another these need the most, @1:`
    ∷ (λ l b c d. Most s l)
    -- `  cell @1, load @2`
    ∷ (λ cell load c d. InSet s cell load)
    -- `with @1 channels: @2 slots, and no fewer`
    ∷ (λ f n c d. WithChannels s f × AtLeastSlots s n × SlotsDo s n)
    -- `with @1 channels: at least @2 slots, and @3 will do`
    ∷ (λ f lo hi d. WithChannels s f × AtLeastSlots s lo × SlotsDo s hi)
    -- `with @1 channels: at least @2 slots`
    ∷ (λ f lo c d. WithChannels s f × AtLeastSlots s lo)
    -- `with @1 channels: more than 128 slots, which no site has`
    ∷ (λ f b c d. WithChannels s f × AtLeastSlots s 129)
    -- `with @1 slots: @2 channels, and no fewer`
    ∷ (λ f n c d. WithSlots s f × AtLeastChannels s n × ChannelsDo s n)
    -- `with @1 slots: at least @2 channels, and @3 will do`
    ∷ (λ f lo hi d. WithSlots s f × AtLeastChannels s lo × ChannelsDo s hi)
    -- `with @1 slots: at least @2 channels`
    ∷ (λ f lo c d. WithSlots s f × AtLeastChannels s lo)
    -- `with @1 slots: more than 16 channels, which no site has`
    ∷ (λ f b c d. WithSlots s f × AtLeastChannels s 17)
    -- `nested: of each cell, the lower cells that clash with it clash with one another`
    ∷ (λ a b c d. NestedHolds s)
    -- `not nested: cells @1 and @2 clash with cell @3, and not with one another`
    ∷ (λ a b i d. Split s a b i)
    ∷ []

-- there is no other row
abbrev pub meaning_at : List Meaning → ℕ → Meaning
meaning_at [] k a b c d = ⊥
meaning_at (m ∷ ms) zero a b c d = m a b c d
meaning_at (m ∷ ms) (suc k) a b c d = meaning_at ms k a b c d

abbrev pub Means : Site → Phrase → Type 0
Means s Silent = Unit {0}
Means s (Row k a b c d) = meaning_at (meanings s) k a b c d
