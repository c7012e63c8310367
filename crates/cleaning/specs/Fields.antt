-- Fields that are one byte or none, with their quotes and their separator, taken at once: what is written for them is what is written for their bytes.
use Rattle.std.specs.Prelude.{ℕ, ◌+◌, ◌≤◌, ◌<◌, Bool, false, ◌&&◌, ◌||◌, not, List, ◌++◌, ◌≡◌, eqb, leb, length, drop, get_or, Option, Some, None}
use Rattle.laws.specs.Choice.{pick}
use Rattle.lines.specs.Format.{comma_byte}
use Rattle.cleaning.specs.Clean.{quote_byte, is_unquoted, is_empty, next_column, out_of, clean_from}
use Rattle.cleaning.specs.declared.Quotes.TheVariants.{Unquoted}
use Rattle.cleaning.specs.declared.Content.TheVariants.{Empty}
use Rattle.cleaning.specs.declared.Standing.{Standing}
use Rattle.cleaning.specs.declared.Step.{Step}
use Rattle.cleaning.specs.declared.Field.{Field}

-- a byte that is content in every column: it is none of 0, tab, LF, CR, blank, quote, comma and semicolon
unfoldable pub is_plain : ℕ → Bool
is_plain b = leb 48 b && not (eqb b 59)

-- what is written for it: 1 for an x that is a mark
unfoldable pub content_of : ℕ → ℕ → ℕ
content_of column b = pick (eqb column 0 && (eqb b 120 || eqb b 88)) 49 b

-- what is written for a field without content: 0, 48, for a mark
unfoldable pub empty_of : ℕ → ℕ
empty_of column = pick (eqb column 0) 48 0

-- after two quotes: a separator
unfoldable pub empty_field : ℕ → ℕ → ℕ → Option Field
empty_field sep column c = pick (eqb c sep) (Some (record { count = 3; content = empty_of column })) None

-- after an open quote: another, or content, a quote and a separator
unfoldable pub quoted_field : ℕ → ℕ → ℕ → ℕ → ℕ → Option Field
quoted_field sep column b c d =
    pick (eqb b quote_byte) (empty_field sep column c)
    (pick (is_plain b && (eqb c quote_byte && eqb d sep)) (Some (record { count = 4; content = content_of column b })) None)

unfoldable pub bare_field : ℕ → ℕ → ℕ → ℕ → Option Field
bare_field sep column a b = pick (is_plain a && eqb b sep) (Some (record { count = 2; content = content_of column a })) None

-- the field that begins at index i, where four bytes stand there
unfoldable pub field_at : ℕ → ℕ → List ℕ → ℕ → Option Field
field_at sep column s i =
    pick (leb (i + 4) (length s))
    (pick (eqb (get_or s i 0) quote_byte) (quoted_field sep column (get_or s (i + 1) 0) (get_or s (i + 2) 0) (get_or s (i + 3) 0))
    (bare_field sep column (get_or s i 0) (get_or s (i + 1) 0)))
    None

-- the spot where a field begins
abbrev pub field_spot : ℕ → Standing
field_spot column = record { column = column; quotes = Unquoted; content = Empty; ended = false }

unfoldable pub begins_field : Standing → Bool
begins_field p = is_unquoted p.quotes && (is_empty p.content && not p.ended)

-- the field that begins at index i, where the spot is one where a field begins
unfoldable pub next_field : ℕ → Standing → List ℕ → ℕ → Option Field
next_field sep p s i = pick (begins_field p) (field_at sep p.column s i) None

-- the content and a comma
unfoldable pub field_step : ℕ → ℕ → Step
field_step column content = record { spot = field_spot (next_column column); mend = content; byte = comma_byte; feed = 0; change = 0 }

-- some bytes of s from index i on, taken in one step
pub record Stepped (sep : ℕ) (p : Standing) (s : List ℕ) (i : ℕ) (st : Step) (count : ℕ) : Type 0 where
  pub some : 0 < count
  pub inside : i + count ≤ length s
  pub same : clean_from sep p (drop i s) ≡ out_of st ++ clean_from sep st.spot (drop (i + count) s)
