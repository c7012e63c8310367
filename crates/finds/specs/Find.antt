-- The line of `duggfrask find`: the last word, and what there is to say beside it. And the exit status: "Status of `why` and `find`: 0 a plan, 1 proved full or
-- refused, 3 not known". And the tries that `why` makes at most.
use Rattle.std.specs.Prelude.{ℕ, ◌+◌, Bool, List, [], ◌++◌, ltb, Result, Ok, Err, None}
use Rattle.laws.specs.Choice.{pick}
use Rattle.theory.specs.Net.{room}
use Rattle.site.specs.Record.{positions, fault_of}
use Rattle.site.specs.Reach.{net_of}
use Rattle.site.specs.declared.Site.{Site}
use Rattle.site.specs.declared.Fault.{Fault}
use Rattle.loads.specs.Loads.{loads_in}
use Rattle.search.specs.Search.{too_large}
use Rattle.finder.specs.declared.Way.{Way}
use Rattle.finder.specs.declared.FindError.{FindError}
use Rattle.finder.specs.declared.FindError.TheVariants.{Full, FullInClass, FullSearched, NotKnown, TableShort, Record}
use Rattle.speech.specs.Speech.{bytes}
use Rattle.phrases.specs.Phrases.{phrase}
use Rattle.phrases.specs.declared.Phrase.{Phrase}
use Rattle.phrases.specs.declared.Phrase.TheVariants.{Silent, Row}
use Rattle.say_refusals.specs.Said.{refused_line}
use Rattle.verdicts.specs.Said.{fault_said}
use Rattle.finds.specs.Lines.{find_lines, found_sizes_row, it_needs_row, they_need_row, no_plan_row, stopped_there_row, too_large_row}
use Rattle.finds.specs.Last.{several_in, last_word}

-- ---- beside the last word

-- the size of the site that is planned
abbrev pub found_sizes : Site → Phrase
found_sizes s = Row found_sizes_row s.cells s.slots s.channels 0

-- "these cells clash with one another and their loads are above the open positions": where something is blocked the row after says `open`
abbrev pub needs_row : (several : Bool) (n all : ℕ) → ℕ
needs_row several n all = pick several they_need_row it_needs_row + pick (ltb n all) 1 0

unfoldable pub needs_phrase : Site → ℕ → Phrase
needs_phrase s x = Row (needs_row (several_in x) (room (net_of s)) (positions s)) (loads_in s.loads x) (room (net_of s)) 0 0

-- "whose search met its limit or is too large for it"
unfoldable pub unknown_phrase : Site → Phrase
unknown_phrase s = Row (pick (too_large (net_of s)) too_large_row stopped_there_row) 0 0 0 0

abbrev pub beside_phrase : Site → Result Way FindError → Phrase
beside_phrase s (Ok w) = found_sizes s
beside_phrase s (Err (Full x)) = needs_phrase s x
beside_phrase s (Err FullInClass) = Row no_plan_row 0 0 0 0
beside_phrase s (Err (FullSearched n)) = Row no_plan_row 0 0 0 0
beside_phrase s (Err (NotKnown n)) = unknown_phrase s
beside_phrase s (Err TableShort) = Silent
beside_phrase s (Err (Record f)) = Silent

-- ---- the line

-- 4, or what is wrong with the record
abbrev pub find_refused : Result Way FindError → List ℕ
find_refused (Ok w) = []
find_refused (Err (Full x)) = []
find_refused (Err FullInClass) = []
find_refused (Err (FullSearched n)) = []
find_refused (Err (NotKnown n)) = []
find_refused (Err TableShort) = refused_line 4 None
find_refused (Err (Record f)) = fault_said f

-- of an accepted site
abbrev pub found_said : Site → Result Way FindError → List ℕ
found_said s reply = last_word reply ++ (phrase find_lines (beside_phrase s reply) ++ find_refused reply)

abbrev pub find_line : Site → Result Unit Fault → Result Way FindError → List ℕ
find_line s (Ok u) reply = found_said s reply
find_line s (Err f) reply = fault_said f

unfoldable pub find_said : Site → Result Way FindError → List ℕ
find_said s = find_line s (fault_of s)

-- ---- `why`

-- its last line
abbrev pub last_line : Result Way FindError → List ℕ
last_line reply = last_word reply ++ bytes "\n"

-- the tries that it makes at most
abbrev pub why_tries : ℕ
why_tries = 1000000

-- ---- the status

abbrev pub status_of : Result Way FindError → ℕ
status_of (Ok w) = 0
status_of (Err (Full x)) = 1
status_of (Err FullInClass) = 1
status_of (Err (FullSearched n)) = 1
status_of (Err (NotKnown n)) = 3
status_of (Err TableShort) = 1
status_of (Err (Record f)) = 1
