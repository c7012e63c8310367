-- The changes of form: a table of bytes as words, and words as a table of bytes.
use Rattle.std.specs.Prelude.{Bool, ◌||◌, List, ◌++◌, ℕ, ◌*◌, ltb, length, drop, Result, Ok, Err}
use Rattle.laws.specs.Choice.{pick}
use Rattle.theory.specs.Greedy.{reserved}
use Rattle.site.specs.Record.{positions, size, fault_of, is_fine, answer_with}
use Rattle.site.specs.declared.Site.{Site}
use Rattle.words.specs.Words.{words_of}
use Rattle.wordtable.specs.declared.FormError.{FormError}
use Rattle.wordtable.specs.declared.FormError.TheVariants.{TableShort, Record}
use Rattle.wordforms.specs.Words.{sends_at, bytes_of}

-- "Refusal 4 is given when fewer than N words are lent", and for a change of form also when fewer than IN bytes are
abbrev pub lent_short : Site → List ℕ → List ℕ → Bool
lent_short s t w = ltb (length t) (size s) || ltb (length w) (positions s)

unfoldable pub form_answer : Site → List ℕ → List ℕ → Result Unit FormError
form_answer s t w = answer_with Record (fault_of s) (pick (lent_short s t w) (Err TableShort) (Ok tt))

-- "bits above I are .. written as 0", and "words past N are never written", bytes past IN neither. No other refusal writes.
-- "Only 1 means transmit": of a table's bytes, 1 alone sets a bit.
unfoldable pub to_words : Site → List ℕ → List ℕ → List ℕ
to_words s t w =
    pick (is_fine (fault_of s))
    (pick (lent_short s t w) w (words_of s.cells (positions s) (reserved (positions s) t) ++ drop (positions s) w))
    w

unfoldable pub to_bytes : Site → List ℕ → List ℕ → List ℕ
to_bytes s w t =
    pick (is_fine (fault_of s))
    (pick (lent_short s t w) t (bytes_of s.cells (positions s) (sends_at w) ++ drop (s.cells * positions s) t))
    t
