-- The text of `duggfrask search`: W13, "For sites outside W9's class the desk needs to know whether the site is full."
use Rattle.std.specs.Prelude.{ℕ, ◌+◌, List, eqb, Result, Ok, Err, None}
use Rattle.laws.specs.Choice.{pick}
use Rattle.search.specs.declared.SearchError.{SearchError}
use Rattle.search.specs.declared.SearchError.TheVariants.{Full, Limit, TooMany, TableShort, Record}
use Rattle.phrases.specs.Phrases.{phrase}
use Rattle.phrases.specs.declared.Phrase.{Phrase}
use Rattle.phrases.specs.declared.Phrase.TheVariants.{Silent, Row}
use Rattle.say_refusals.specs.Said.{refused_line}
use Rattle.verdicts.specs.Said.{fault_said}
use Rattle.say_search.specs.Lines.{search_lines, planned_after_row, exhausted_row, stopped_row, on_row}

-- one try is said by the row after
abbrev pub tries_phrase : (row tries : ℕ) → Phrase
tries_phrase row tries = pick (eqb tries 1) (Row (row + 1) 0 0 0 0) (Row row tries 0 0 0)

-- "the answer is a plan, "none exists" or "limit met", with the tries made"
abbrev pub search_phrase : Result ℕ SearchError → Phrase
search_phrase (Ok n) = tries_phrase planned_after_row n
search_phrase (Err (Full n)) = tries_phrase exhausted_row n
search_phrase (Err (Limit n)) = tries_phrase stopped_row n
search_phrase (Err TooMany) = Silent
search_phrase (Err TableShort) = Silent
search_phrase (Err (Record f)) = Silent

-- that; 25; 4; or what is wrong with the record
abbrev pub search_said : Result ℕ SearchError → List ℕ
search_said (Ok n) = phrase search_lines (search_phrase (Ok n))
search_said (Err (Full n)) = phrase search_lines (search_phrase (Err (Full n)))
search_said (Err (Limit n)) = phrase search_lines (search_phrase (Err (Limit n)))
search_said (Err TooMany) = refused_line 25 None
search_said (Err TableShort) = refused_line 4 None
search_said (Err (Record f)) = fault_said f

-- on a terminal, of a search with rising limits: said where a limit is met and a larger one comes
abbrev pub on_phrase : ℕ → Phrase
on_phrase tries = Row on_row tries 0 0 0

abbrev pub on_said : ℕ → List ℕ
on_said tries = phrase search_lines (on_phrase tries)
