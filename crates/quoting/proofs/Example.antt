-- A name in quotes and one without, computed letter by letter. Assumes nothing.
use mathlib.Core.Path.{◌≡◌, refl}
use mathlib.Core.List.{[], ◌∷◌}
use Rattle.speech.specs.Speech.{bytes}
use Rattle.quoting.specs.Names.{breaks_field, has_break, twice, doubled, quoted_name}

-- a"b,c and a.site: 34 is the quote
name-said :
    quoted_name (97 ∷ 34 ∷ 98 ∷ 44 ∷ 99 ∷ []) ∷ quoted_name (bytes "a.site") ∷ []
    ≡ (34 ∷ 97 ∷ 34 ∷ 34 ∷ 98 ∷ 44 ∷ 99 ∷ 34 ∷ []) ∷ bytes "a.site" ∷ []
unfolding breaks_field has_break twice doubled quoted_name
name-said = refl
