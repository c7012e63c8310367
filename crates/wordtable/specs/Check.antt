-- What the word checker answers: the verdict of checker/specs/Check.antt, asked of the words.
use Rattle.std.specs.Prelude.{List, ℕ, length, Result}
use Rattle.site.specs.Record.{positions}
use Rattle.site.specs.declared.Site.{Site}
use Rattle.checker.specs.Check.{checked_by}
use Rattle.checker.specs.declared.CheckError.{CheckError}
use Rattle.wordforms.specs.Words.{sends_at}

-- "Refusal 4 is given when fewer than N words are lent": after the record's 1, 24, 2, 3 and 20, and before 22, 6 and 7
unfoldable pub check_words_answer : Site → List ℕ → Result Unit CheckError
check_words_answer s w = checked_by s (length w) (positions s) (sends_at w)
