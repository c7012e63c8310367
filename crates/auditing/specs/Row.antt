-- How a table of sentences says the form of a site: the rows of the four forms stand in it one after the other.
use Rattle.std.specs.Prelude.{ℕ, ◌+◌}
use Rattle.site.specs.declared.Site.{Site}
use Rattle.phrases.specs.declared.Phrase.{Phrase}
use Rattle.phrases.specs.declared.Phrase.TheVariants.{Row}
use Rattle.auditing.specs.declared.Form.{Form}
use Rattle.auditing.specs.declared.Form.TheVariants.{Chained, Nested, Renumbered, Neither}

-- the row of a form, where `first` is that of a chained site
abbrev pub form_row : (first : ℕ) → Form → ℕ
form_row first Chained = first
form_row first Nested = first + 1
form_row first Renumbered = first + 2
form_row first Neither = first + 3

-- that row with the sizes and the rule
abbrev pub form_phrase : (first : ℕ) → Site → Form → Phrase
form_phrase first s form = Row (form_row first form) s.cells s.slots s.channels s.rule
