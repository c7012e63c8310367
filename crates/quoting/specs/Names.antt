-- "A name with a comma, a quote or a line's end is quoted (RFC 4180)": it stands between quotes, and each quote in it twice. 34 is a quote.
use Rattle.std.specs.Prelude.{ℕ, Bool, false, ◌||◌, List, [], ◌∷◌, ◌++◌, eqb}
use Rattle.laws.specs.Choice.{pick}

-- a comma, a quote, or one of the two bytes of a line's end
unfoldable pub breaks_field : ℕ → Bool
breaks_field b = eqb b 44 || (eqb b 34 || (eqb b 13 || eqb b 10))

unfoldable pub has_break : List ℕ → Bool
has_break [] = false
has_break (b ∷ name) = breaks_field b || has_break name

unfoldable pub twice : ℕ → List ℕ
twice b = pick (eqb b 34) (b ∷ b ∷ []) (b ∷ [])

unfoldable pub doubled : List ℕ → List ℕ
doubled [] = []
doubled (b ∷ name) = twice b ++ doubled name

abbrev pub in_quotes : List ℕ → List ℕ
in_quotes name = 34 ∷ (doubled name ++ (34 ∷ []))

unfoldable pub quoted_name : List ℕ → List ℕ
quoted_name name = pick (has_break name) (in_quotes name) name

-- ---- taking the quotes off, as a reader of such a sheet does

-- between the quotes: two quotes are one, and one alone ends the field
unfoldable pub undoubled : List ℕ → List ℕ
undoubled [] = []
undoubled (b ∷ []) = pick (eqb b 34) [] (b ∷ [])
undoubled (b ∷ c ∷ text) = pick (eqb b 34) (pick (eqb c 34) (34 ∷ undoubled text) []) (b ∷ undoubled (c ∷ text))

-- a field that begins with a quote is in quotes
unfoldable pub unquoted : List ℕ → List ℕ
unquoted [] = []
unquoted (b ∷ field) = pick (eqb b 34) (undoubled field) (b ∷ field)
