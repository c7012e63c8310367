-- What `duggfrask why` says of the numbering of a site that is not nested: that there is none that makes it nested. Of a site that has one, of a nested site,
-- and of a refused record, nothing is said: what a plan in new numbers says of the site is the last word, crate `say_find`.
use Rattle.std.specs.Prelude.{ℕ, List, Result, Ok, Err}
use Rattle.site.specs.declared.Site.{Site}
use Rattle.site.specs.declared.Fault.{Fault}
use Rattle.judges.specs.Judges.{class_answer}
use Rattle.judges.specs.declared.ClassVerdict.{ClassVerdict}
use Rattle.judges.specs.declared.ClassVerdict.TheVariants as class
use Rattle.numbering.specs.Renumber.{renumber_of}
use Rattle.numbering.specs.declared.RenumberError.{RenumberError}
use Rattle.numbering.specs.declared.RenumberError.TheVariants as renumber
use Rattle.phrases.specs.Phrases.{phrase}
use Rattle.phrases.specs.declared.Phrase.{Phrase}
use Rattle.phrases.specs.declared.Phrase.TheVariants.{Silent, Row}
use Rattle.say_numbering.specs.Lines.{anew_lines, never_row}

-- by the answer of `renumber`
abbrev pub anew_numbered : Result Unit RenumberError → Phrase
anew_numbered (Ok u) = Silent
anew_numbered (Err renumber.NoNumbering) = Row never_row 0 0 0 0
anew_numbered (Err (renumber.Record f)) = Silent

-- by the judge of the class
abbrev pub anew_by : Result ClassVerdict Fault → Result Unit RenumberError → Phrase
anew_by (Ok class.InClass) found = Silent
anew_by (Ok (class.Outside a b i)) found = anew_numbered found
anew_by (Err f) found = Silent

abbrev pub anew_phrase : Site → Phrase
anew_phrase s = anew_by (class_answer s) (renumber_of s).answer

unfoldable pub anew_said : Site → List ℕ
anew_said s = phrase anew_lines (anew_phrase s)
