-- What `duggfrask why` says of a site: a list of phrases, each a row of the lines with its values, made from the answers of the calls; and a line that
-- lists what is blocked. A site that is not planned is full when L is above N, the count of open positions, nested or not. Only of what is left
-- `This order found no room, which alone decides nothing` is said.
use Rattle.std.specs.Prelude.{ℕ, zero, suc, min, ◌+◌, ◌/◌, ◌%◌, Bool, List, [], ◌∷◌, ◌++◌, ltb, eqb, get_or, Result, Ok, Err}
use Rattle.laws.specs.Bits.{bit_at}
use Rattle.laws.specs.Choice.{pick}
use Rattle.positions.specs.Blocked.{open_in}
use Rattle.site.specs.Record.{positions}
use Rattle.site.specs.declared.Site.{Site}
use Rattle.site.specs.declared.Fault.{Fault}
use Rattle.planner.specs.Plan.{plan_answer}
use Rattle.planner.specs.declared.PlanError.{PlanError}
use Rattle.planner.specs.declared.PlanError.TheVariants as plan
use Rattle.judges.specs.Judges.{chain_answer, class_answer, load_answer, least_answer}
use Rattle.judges.specs.declared.LoadVerdict.{LoadVerdict}
use Rattle.judges.specs.declared.LoadVerdict.TheVariants as load
use Rattle.judges.specs.declared.ChainVerdict.{ChainVerdict}
use Rattle.judges.specs.declared.ChainVerdict.TheVariants as chain
use Rattle.judges.specs.declared.ClassVerdict.{ClassVerdict}
use Rattle.judges.specs.declared.ClassVerdict.TheVariants as class
use Rattle.judges.specs.declared.LeastVerdict.{LeastVerdict}
use Rattle.judges.specs.declared.LeastVerdict.TheVariants as least
use Rattle.heaviest.specs.Sets.{heaviest_of}
use Rattle.speech.specs.Speech.{bytes}
use Rattle.phrases.specs.Phrases.{phrase}
use Rattle.phrases.specs.declared.Phrase.{Phrase}
use Rattle.phrases.specs.declared.Phrase.TheVariants.{Silent, Row}
use Rattle.putblocks.specs.Canon.{blocked_text}
use Rattle.why.specs.Lines.{why_lines, chained_row, broken_row, holds_row, over_row, open_over_row, plans_row, full_row, gave_up_row, exact_row, range_row}
use Rattle.why.specs.Lines.{set_row, cell_row, slots_row, channels_row, nested_row, split_row}

-- "the count of open positions"
abbrev pub open_of : Site → ℕ
open_of s = open_in s.blocked (positions s)

-- ---- the verdicts

abbrev pub chain_phrase : Result ChainVerdict Fault → Phrase
chain_phrase (Ok chain.Chained) = Row chained_row 0 0 0 0
chain_phrase (Ok (chain.Broken a b c)) = Row broken_row a b c 0
chain_phrase (Err f) = Silent

abbrev pub class_phrase : Result ClassVerdict Fault → Phrase
class_phrase (Ok class.InClass) = Row nested_row 0 0 0 0
class_phrase (Ok (class.Outside a b i)) = Row split_row a b i 0
class_phrase (Err f) = Silent

-- W9: "each chained site is in the class", so that nothing more is said of it
abbrev pub nested_phrase : Result ChainVerdict Fault → Result ClassVerdict Fault → Phrase
nested_phrase (Ok chain.Chained) class = Silent
nested_phrase (Ok (chain.Broken a b c)) class = class_phrase class
nested_phrase (Err f) class = Silent

-- on a site that is not nested a load test that fails means nothing, and the sentence says that
abbrev pub over_phrase : Result ClassVerdict Fault → (cell excess : ℕ) → Phrase
over_phrase (Ok class.InClass) cell excess = Row over_row cell excess 0 0
over_phrase (Ok (class.Outside a b i)) cell excess = Row open_over_row cell excess 0 0
over_phrase (Err f) cell excess = Silent

abbrev pub load_phrase : Result ClassVerdict Fault → Result LoadVerdict Fault → Phrase
load_phrase class (Ok load.Holds) = Row holds_row 0 0 0 0
load_phrase class (Ok (load.Over cell excess)) = over_phrase class cell excess
load_phrase class (Err f) = Silent

-- l is the load of the heaviest clash, n the open positions
abbrev pub plan_phrase : (l n : ℕ) → Result Unit PlanError → Phrase
plan_phrase l n (Ok u) = Row plans_row 0 0 0 0
plan_phrase l n (Err plan.TableShort) = Silent
plan_phrase l n (Err (plan.NoRoom cell short)) = Row (pick (ltb n l) full_row gave_up_row) cell short 0 0
plan_phrase l n (Err (plan.Record f)) = Silent

-- ---- it takes at least L, the heaviest clash, whose cells are named with their loads; U will do. Where L = U: it takes L, and no fewer

-- the number that `least` answers
abbrev pub least_number : Result LeastVerdict Fault → ℕ
least_number (Ok (least.Least n)) = n
least_number (Ok (least.Enough n)) = n
least_number (Err f) = 0

-- U: the smaller of `least`'s number and, where the site is planned, the open positions
abbrev pub will_do : Result Unit PlanError → (n m : ℕ) → ℕ
will_do (Ok u) n m = min n m
will_do (Err plan.TableShort) n m = m
will_do (Err (plan.NoRoom cell short)) n m = m
will_do (Err (plan.Record f)) n m = m

-- of two rows the second, which says `open`, where n of all are open, and these are fewer
abbrev pub has_row : (row n all : ℕ) → ℕ
has_row row n all = pick (ltb n all) (row + 1) row

unfoldable pub takes_phrase : (l u n all : ℕ) → Phrase
takes_phrase l u n all = pick (eqb l u) (Row (has_row exact_row n all) l n 0 0) (Row (has_row range_row n all) l u n 0)

unfoldable pub set_phrase : ℕ → Phrase
set_phrase l = pick (ltb 0 l) (Row set_row l 0 0 0) Silent

-- the line of the cell at index j, where the set has it
unfoldable pub cell_phrase : (set load j : ℕ) → Phrase
cell_phrase set load j = pick (bit_at set j) (Row cell_row (j + 1) load 0 0) Silent

-- of the first so many cells, in rising number
unfoldable pub cell_phrases : List ℕ → ℕ → ℕ → List Phrase
cell_phrases loads set zero = []
cell_phrases loads set (suc j) = cell_phrases loads set j ++ (cell_phrase set (get_or loads j 0) j ∷ [])

-- ---- sizes are printed from L, fewer than which never do, and from U, which will do

-- the fewest slots of f channels (or channels of f slots) that make n channel-slots, and at least 1
unfoldable pub fewest : ℕ → ℕ → ℕ
fewest n f = pick (ltb 0 n) (pick (eqb (n % f) 0) (n / f) (n / f + 1)) 1

-- with f of the one, how many of the other, of which a site has at most so many: `row` is the first of its four rows
abbrev pub size_row : (row most f lo hi : ℕ) → Phrase
size_row row most f lo hi =
    pick (ltb most lo) (Row (row + 3) f 0 0 0) (pick (ltb most hi) (Row (row + 2) f lo 0 0) (pick (eqb lo hi) (Row row f lo 0 0) (Row (row + 1) f lo hi 0)))

unfoldable pub size_phrase : (row most f l u : ℕ) → Phrase
size_phrase row most f l u = size_row row most f (fewest l f) (fewest u f)

-- a site has at most 128 slots, and at most 16 channels
abbrev pub slots_phrase : Site → (l u : ℕ) → Phrase
slots_phrase s l u = size_phrase slots_row 128 s.channels l u

abbrev pub channels_phrase : Site → (l u : ℕ) → Phrase
channels_phrase s l u = size_phrase channels_row 16 s.slots l u

-- ---- all of it

abbrev pub verdict_phrases : Result ChainVerdict Fault → Result ClassVerdict Fault → Result LoadVerdict Fault → Result Unit PlanError → (l n : ℕ) → List Phrase
verdict_phrases judge class test reply l n = chain_phrase judge ∷ nested_phrase judge class ∷ load_phrase class test ∷ plan_phrase l n reply ∷ []

abbrev pub clash_phrases : Site → (l u set : ℕ) → List Phrase
clash_phrases s l u set = takes_phrase l u (open_of s) (positions s) ∷ set_phrase l ∷ cell_phrases s.loads set s.cells

abbrev pub sizes_phrases : Site → (l u : ℕ) → List Phrase
sizes_phrases s l u = slots_phrase s l u ∷ channels_phrase s l u ∷ []

-- something is blocked: fewer positions are open than there are. More slots or channels need not be open then, so that no size is said
abbrev pub some_blocked : Site → Bool
some_blocked s = ltb (open_of s) (positions s)

abbrev pub number_phrases : Site → (l u set : ℕ) → List Phrase
number_phrases s l u set = clash_phrases s l u set ++ pick (some_blocked s) [] (sizes_phrases s l u)

-- a refused record has no text here: its fault has it
abbrev pub site_phrases : Site → Result Unit PlanError → Result (ℕ × ℕ) Fault → List Phrase
site_phrases s reply (Ok (l, set)) =
    verdict_phrases (chain_answer s) (class_answer s) (load_answer s) reply l (open_of s)
    ++ number_phrases s l (will_do reply (open_of s) (least_number (least_answer s))) set
site_phrases s reply (Err f) = []

-- what `why` says of a site, with a table for the planner to plan in
unfoldable pub why_phrases : Site → List ℕ → List Phrase
why_phrases s table = site_phrases s (plan_answer s table) (heaviest_of s)

-- the text of some phrases, one after the other
abbrev pub texts : List Phrase → List ℕ
texts [] = []
texts (p ∷ ps) = phrase why_lines p ++ texts ps

-- what is blocked, in the form in which it is typed
abbrev pub blocked_list : Site → List ℕ
blocked_list s = blocked_text s.blocked s.slots s.channels

abbrev pub list_line : Site → List ℕ
list_line s = bytes "blocked: " ++ blocked_list s ++ bytes "\n"

-- the last line, where something is blocked
abbrev pub blocked_said : Site → Result (ℕ × ℕ) Fault → List ℕ
blocked_said s (Ok (l, set)) = pick (some_blocked s) (list_line s) []
blocked_said s (Err f) = []

unfoldable pub why_said : Site → List ℕ → List ℕ
why_said s table = texts (why_phrases s table) ++ blocked_said s (heaviest_of s)

-- ---- as the code puts it

abbrev pub verdicts_said : Site → Result Unit PlanError → (l n : ℕ) → List ℕ
verdicts_said s reply l n = texts (verdict_phrases (chain_answer s) (class_answer s) (load_answer s) reply l n)

-- what comes last: the sizes, or what is blocked
abbrev pub last_said : Site → (l u : ℕ) → List ℕ
last_said s l u = pick (some_blocked s) (list_line s) (texts (sizes_phrases s l u))

abbrev pub site_said : Site → Result Unit PlanError → Result (ℕ × ℕ) Fault → List ℕ
site_said s reply found = texts (site_phrases s reply found) ++ blocked_said s found
