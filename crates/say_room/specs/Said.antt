-- What `duggfrask room` says of a site, by what `find` answers of it: "for each cell how much more it could carry with all else as it is (exact in the class,
-- "at least" elsewhere: say which), and for the site how many slots more or fewer would do."
use Rattle.std.specs.Prelude.{ℕ, ◌+◌, ◌-◌, Bool, ◌&&◌, List, [], ◌++◌, ltb, eqb, Result, Ok, Err, is_ok}
use Rattle.laws.specs.Choice.{pick}
use Rattle.site.specs.Record.{load_at}
use Rattle.site.specs.declared.Site.{Site}
use Rattle.site.specs.declared.Fault.{Fault}
use Rattle.judges.specs.Judges.{least_answer}
use Rattle.heaviest.specs.Sets.{heaviest_of}
use Rattle.finder.specs.declared.Way.{Way}
use Rattle.finder.specs.declared.FindError.{FindError}
use Rattle.finder.specs.declared.FindError.TheVariants as find
use Rattle.rooms.specs.Room.{room_answer}
use Rattle.rooms.specs.declared.Room.{Room}
use Rattle.rooms.specs.declared.Room.TheVariants as room
use Rattle.why.specs.Said.{open_of, least_number, fewest, some_blocked}
use Rattle.phrases.specs.Phrases.{phrase}
use Rattle.phrases.specs.declared.Phrase.{Phrase}
use Rattle.phrases.specs.declared.Phrase.TheVariants.{Silent, Row}
use Rattle.say_room.specs.Lines.{room_lines, carries_row, no_more_row, carries_least_row, no_cell_row, whether_row, do_slots_row, do_open_row, line_end_row}
use Rattle.say_room.specs.Lines.{fewer_row}
use Rattle.say_room.specs.Lines.{fewer_than_row, least_slots_row, too_few_row}

-- ---- the cells

-- a cell by its number, with its load
abbrev pub more_phrase : (cell load : ℕ) → Result Room Fault → Phrase
more_phrase cell load (Ok (room.Exactly m)) = pick (eqb m 0) (Row no_more_row cell load 0 0) (Row carries_row cell load m 0)
more_phrase cell load (Ok (room.AtLeast m)) = Row carries_least_row cell load m 0
more_phrase cell load (Err f) = Silent

-- of the cell at index i, where a plan is found; else a first line says that no cell can carry more, or that it is not known
abbrev pub room_phrase : Site → ℕ → Result Way FindError → Phrase
room_phrase s i (Ok way) = more_phrase (i + 1) (load_at s i) (room_answer s (i + 1))
room_phrase s i (Err e) = Silent

-- the first line's end, after the last word on the site: there is no plan, or it is not known
abbrev pub word_end : Result Way FindError → Phrase
word_end (Ok way) = Silent
word_end (Err (find.Full x)) = Row no_cell_row 0 0 0 0
word_end (Err find.FullInClass) = Row no_cell_row 0 0 0 0
word_end (Err (find.FullSearched n)) = Row no_cell_row 0 0 0 0
word_end (Err (find.NotKnown n)) = Row whether_row 0 0 0 0
word_end (Err find.TableShort) = Silent
word_end (Err (find.Record f)) = Silent

-- ---- the slots

-- a plan is found with n open positions, which are fewer than m
abbrev pub own_does : Result Way FindError → (n m : ℕ) → Bool
own_does reply n m = is_ok reply && ltb n m

-- how many open positions will do: `least`'s number, m, or the site's own, n
abbrev pub open_enough : Result Way FindError → (n m : ℕ) → ℕ
open_enough reply n m = pick (own_does reply n m) n m

-- how many slots of f channels: the site's own are t
abbrev pub slots_enough : Result Way FindError → (n m t f : ℕ) → ℕ
slots_enough reply n m t f = pick (own_does reply n m) t (fewest m f)

-- so many will do, beside those that it has
abbrev pub beside_own : (row enough has : ℕ) → Phrase
beside_own row enough has =
    pick (ltb enough has) (Row row enough (has - enough) 0 0) (pick (eqb enough has) (Row (row + 1) enough 0 0 0) (Row (row + 2) enough (enough - has) 0 0))

-- with fewer no plan exists. No site has 0 slots, and with 1 open position nothing more is said
abbrev pub fewer_phrase : (needs enough : ℕ) → Phrase
fewer_phrase needs enough = pick (ltb 1 needs) (pick (eqb needs enough) (Row fewer_row needs 0 0 0) (Row fewer_than_row needs 0 0 0)) (Row line_end_row 0 0 0 0)

-- a site has at most 128 slots
abbrev pub slots_first : (needs enough has : ℕ) → Phrase
slots_first needs enough has =
    pick (ltb 128 needs) (Row too_few_row 0 0 0 0) (pick (ltb 128 enough) (Row least_slots_row needs 0 0 0) (beside_own do_slots_row enough has))

abbrev pub slots_second : (needs enough : ℕ) → Phrase
slots_second needs enough = pick (ltb 128 needs) Silent (pick (ltb 128 enough) Silent (fewer_phrase needs enough))

-- two phrases of one line
abbrev pub two_said : Phrase → Phrase → List ℕ
two_said p q = phrase room_lines p ++ phrase room_lines q

abbrev pub slots_said : (needs enough has : ℕ) → List ℕ
slots_said needs enough has = two_said (slots_first needs enough has) (slots_second needs enough)

abbrev pub open_said_of : (needs enough has : ℕ) → List ℕ
open_said_of needs enough has = two_said (beside_own do_open_row enough has) (fewer_phrase needs enough)

-- l is the load of the heaviest clash, m the number of `least`. Where something is blocked more slots need not be open: open channel-slots are counted
abbrev pub sized_said : Site → Result Way FindError → (l m : ℕ) → List ℕ
sized_said s reply l m =
    pick (some_blocked s) (open_said_of l (open_enough reply (open_of s) m) (open_of s))
    (slots_said (fewest l s.channels) (slots_enough reply (open_of s) m s.slots s.channels) s.slots)

abbrev pub by_load : Site → Result Way FindError → Result (ℕ × ℕ) Fault → List ℕ
by_load s reply (Ok (l, set)) = sized_said s reply l (least_number (least_answer s))
by_load s reply (Err f) = []

unfoldable pub size_said : Site → Result Way FindError → List ℕ
size_said s reply = by_load s reply (heaviest_of s)
