-- What is said of a search, computed letter by letter. Assumes nothing.
use mathlib.Core.List.{[], ◌∷◌}
use mathlib.Core.Path.{◌≡◌, refl}
use Rattle.std.specs.Prelude.{Ok, Err, None}
use Rattle.text.specs.Decimal.{digits_of, decimal}
use Rattle.speech.specs.Speech.{bytes, spoken}
use Rattle.search.specs.declared.SearchError.TheVariants.{Full, Limit, TooMany, TableShort}
use Rattle.say_refusals.specs.Said.{refused_line}
use Rattle.say_search.specs.Lines.{search_lines}
use Rattle.say_search.specs.Said.{search_said, on_said}

command-said :
    search_said (Ok 34) ∷ search_said (Ok 0) ∷ search_said (Ok 1) ∷ search_said (Err (Full 118)) ∷ search_said (Err (Full 1))
    ∷ search_said (Err (Limit 1000)) ∷ search_said (Err (Limit 1)) ∷ search_said (Err TooMany) ∷ search_said (Err TableShort) ∷ on_said 50 ∷ []
    ≡ bytes "planned after 34 tries\n" ∷ bytes "planned after 0 tries\n" ∷ bytes "planned after 1 try\n"
    ∷ bytes "full: no plan exists, and 118 tries show it\n" ∷ bytes "full: no plan exists, and 1 try shows it\n"
    ∷ bytes "not known: stopped at 1000 tries\n" ∷ bytes "not known: stopped at 1 try\n"
    ∷ refused_line 25 None ∷ refused_line 4 None ∷ bytes "not decided after 50 tries; searching on\n" ∷ []
unfolding search_lines spoken decimal digits_of
command-said = refl
