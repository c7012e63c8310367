-- What `duggfrask diff` says: "the changes from one plan to another, in mend's words". First how many they are, and then a line for each, as crate
-- `say_changes` says it of two tables.
use Rattle.std.specs.Prelude.{ℕ, List, ◌++◌, eqb}
use Rattle.laws.specs.Choice.{pick}
use Rattle.theory.specs.Greedy.{reserved}
use Rattle.mending.specs.Changes.{change_count}
use Rattle.site.specs.Record.{positions, fault_of, is_fine}
use Rattle.site.specs.declared.Site.{Site}
use Rattle.phrases.specs.Phrases.{phrase}
use Rattle.phrases.specs.declared.Phrase.{Phrase}
use Rattle.phrases.specs.declared.Phrase.TheVariants.{Silent, Row}
use Rattle.say_changes.specs.Said.{all_said}
use Rattle.say_diff.specs.Lines.{diff_lines, no_change_row, changes_row}

-- how many positions of how many cells are a reservation in one table, and silence in the other
abbrev pub diff_count : Site → (old new : List ℕ) → ℕ
diff_count s old new = change_count (reserved (positions s) new) (reserved (positions s) old) (positions s) s.cells

abbrev pub changes_phrase : ℕ → Phrase
changes_phrase number = pick (eqb number 0) (Row no_change_row 0 0 0 0) (Row changes_row number 0 0 0)

-- of a site with a fault nothing is said: it has no tables
abbrev pub diff_phrase : Site → (old new : List ℕ) → Phrase
diff_phrase s old new = pick (is_fine (fault_of s)) (changes_phrase (diff_count s old new)) Silent

abbrev pub diff_said : Site → (old new : List ℕ) → List ℕ
diff_said s old new = phrase diff_lines (diff_phrase s old new)

-- ---- all of it, as the desk writes it

abbrev pub all_diff_said : Site → (old new : List ℕ) → List ℕ
all_diff_said s old new = diff_said s old new ++ all_said old new s.slots s.channels s.cells
