-- A range sheet as spreadsheets write it, made into the form of the format, byte by byte. A byte becomes some bytes, by the spot where it stands. What cannot
-- be tidied is left with a quote before it: no line of the format has a quote, so the reader refuses that line.
use Rattle.std.specs.Prelude.{ℕ, ◌+◌, ◌-◌, Bool, true, false, ◌&&◌, ◌||◌, not, List, [], ◌∷◌, ◌++◌, drop, eqb}
use Rattle.laws.specs.Choice.{pick}
use Rattle.laws.specs.Sum.{bit}
use Rattle.lines.specs.Format.{comma_byte, cr_byte, lf_byte}
use Rattle.lines.specs.Match.{starts}
use Rattle.cleaning.specs.declared.Quotes.{Quotes}
use Rattle.cleaning.specs.declared.Quotes.TheVariants.{Unquoted, Open, Closed}
use Rattle.cleaning.specs.declared.Content.{Content}
use Rattle.cleaning.specs.declared.Content.TheVariants.{Empty, Filled, Spaced}
use Rattle.cleaning.specs.declared.Standing.{Standing}
use Rattle.cleaning.specs.declared.Step.{Step}
use Rattle.cleaning.specs.declared.Tidied.{Tidied}

-- ---- bytes

abbrev pub quote_byte : ℕ
quote_byte = 34

abbrev pub blank_byte : ℕ
blank_byte = 32

-- the byte order mark of UTF-8
abbrev pub order_mark : List ℕ
order_mark = 239 ∷ 187 ∷ 191 ∷ []

-- a comma, a semicolon or a tab
unfoldable pub is_separator : ℕ → Bool
is_separator b = eqb b 44 || (eqb b 59 || eqb b 9)

-- what parts the fields of a sheet: the first comma, semicolon or tab in it; a comma where there is none
unfoldable pub separator_in : List ℕ → ℕ
separator_in [] = comma_byte
separator_in (b ∷ r) = pick (is_separator b) b (separator_in r)

-- ---- what can be changed, each by its number

abbrev pub mark_dropped : ℕ
mark_dropped = 1

abbrev pub comma_put : ℕ
comma_put = 2

abbrev pub end_made : ℕ
end_made = 3

abbrev pub quote_dropped : ℕ
quote_dropped = 4

abbrev pub blank_dropped : ℕ
blank_dropped = 5

abbrev pub zero_put : ℕ
zero_put = 6

abbrev pub one_put : ℕ
one_put = 7

abbrev pub end_added : ℕ
end_added = 8

-- ---- where a byte stands

-- the quotes of the field

abbrev pub is_unquoted : Quotes → Bool
is_unquoted Unquoted = true
is_unquoted Open = false
is_unquoted Closed = false

abbrev pub quote_open : Quotes → Bool
quote_open Unquoted = false
quote_open Open = true
quote_open Closed = false

abbrev pub is_closed : Quotes → Bool
is_closed Unquoted = false
is_closed Open = false
is_closed Closed = true

-- the content of the field

abbrev pub is_empty : Content → Bool
is_empty Empty = true
is_empty Filled = false
is_empty Spaced = false

abbrev pub is_spaced : Content → Bool
is_spaced Empty = false
is_spaced Filled = false
is_spaced Spaced = true

-- with a blank more
abbrev pub spaced_after : Content → Content
spaced_after Empty = Empty
spaced_after Filled = Spaced
spaced_after Spaced = Spaced

-- the column: 3 in the first line; in a line of a cell 2 is its number, 1 its load, 0 a mark. The quotes of the field, its content, and whether a CR has ended
-- the line
abbrev pub first_spot : Standing
first_spot = record { column = 3; quotes = Unquoted; content = Empty; ended = false }

abbrev pub line_spot : Standing
line_spot = record { column = 2; quotes = Unquoted; content = Empty; ended = false }

unfoldable pub next_column : ℕ → ℕ
next_column c = pick (eqb c 3) 3 (c - 1)

-- ---- a byte at its spot: the spot after it, up to three bytes (0 is none), and what was changed

-- what cannot be tidied
abbrev pub spoiled : Standing → ℕ → Step
spoiled p b = record { spot = p; mend = quote_byte; byte = b; feed = 0; change = 0 }

-- "blanks around a field dropped"
unfoldable pub on_blank : Standing → Step
on_blank p =
    record {
      spot = record { column = p.column; quotes = p.quotes; content = spaced_after p.content; ended = false };
      mend = 0;
      byte = 0;
      feed = 0;
      change = blank_dropped;
    }

-- the spot with these quotes
abbrev pub quoted : Standing → Quotes → Step
quoted p q =
    record {
      spot = record { column = p.column; quotes = q; content = p.content; ended = false };
      mend = 0;
      byte = 0;
      feed = 0;
      change = quote_dropped;
    }

-- "quotes around a field dropped": an open quote is closed; before any content one is opened
unfoldable pub on_quote : Standing → Step
on_quote p =
    pick (quote_open p.quotes) (quoted p Closed)
    (pick (is_unquoted p.quotes && is_empty p.content) (quoted p Open) (spoiled p quote_byte))

-- "`x` to .. 1 (an x is a reach)", also a capital one: the first byte of a mark
unfoldable pub is_reach : Standing → ℕ → Bool
is_reach p b = eqb p.column 0 && (is_empty p.content && (eqb b 120 || eqb b 88))

-- any other byte is content: none may come after a closed quote, or after a blank that came after content
unfoldable pub is_late : Standing → ℕ → Bool
is_late p b = eqb b 0 || (is_closed p.quotes || is_spaced p.content)

unfoldable pub on_content : Standing → ℕ → Step
on_content p b =
    pick (is_late p b) (spoiled p b)
    (record {
      spot = record { column = p.column; quotes = p.quotes; content = Filled; ended = false };
      mend = 0;
      byte = pick (is_reach p b) 49 b;
      feed = 0;
      change = pick (is_reach p b) one_put 0;
    })

-- a field ends: "a blank mark .. to 0", 48; an open quote spoils the line
unfoldable pub mend_of : Standing → ℕ
mend_of p = pick (quote_open p.quotes) quote_byte (pick (eqb p.column 0 && is_empty p.content) 48 0)

-- "semicolons or tabs to commas"
unfoldable pub comma_change : ℕ → ℕ
comma_change sep = pick (eqb sep comma_byte) 0 comma_put

unfoldable pub on_separator : ℕ → Standing → Step
on_separator sep p =
    record {
      spot = record { column = next_column p.column; quotes = Unquoted; content = Empty; ended = false };
      mend = mend_of p;
      byte = comma_byte;
      feed = 0;
      change = comma_change sep;
    }

-- the CR of a line's end, and its LF
unfoldable pub on_cr : Standing → Step
on_cr p =
    record {
      spot = record { column = p.column; quotes = Unquoted; content = Empty; ended = true };
      mend = mend_of p;
      byte = cr_byte;
      feed = 0;
      change = 0;
    }

abbrev pub fed : ℕ → Step
fed c = record { spot = line_spot; mend = 0; byte = lf_byte; feed = 0; change = c }

-- "LF to CR LF"
unfoldable pub on_lf : Standing → ℕ → Step
on_lf p c = record { spot = line_spot; mend = mend_of p; byte = cr_byte; feed = lf_byte; change = c }

-- a CR in the midst of a line cannot be tidied
unfoldable pub after_cr : Standing → ℕ → Step
after_cr p b = pick (eqb b lf_byte) (fed 0) (spoiled p b)

-- a byte of a field; a comma is one only in a sheet that has another separator, and cannot be tidied
unfoldable pub on_field : Standing → ℕ → Step
on_field p b = pick (eqb b blank_byte) (on_blank p) (pick (eqb b quote_byte) (on_quote p) (pick (eqb b comma_byte) (spoiled p b) (on_content p b)))

unfoldable pub step_of : ℕ → Standing → ℕ → Step
step_of sep p b =
    pick p.ended (after_cr p b)
    (pick (eqb b sep) (on_separator sep p) (pick (eqb b lf_byte) (on_lf p end_made) (pick (eqb b cr_byte) (on_cr p) (on_field p b))))

-- nothing of a line stands there yet
unfoldable pub is_fresh : Standing → Bool
is_fresh p = eqb p.column 2 && (is_unquoted p.quotes && (is_empty p.content && not p.ended))

abbrev pub nothing : Step
nothing = record { spot = line_spot; mend = 0; byte = 0; feed = 0; change = 0 }

-- "the last line's end added"
unfoldable pub end_of : Standing → Step
end_of p = pick (is_fresh p) nothing (pick p.ended (fed end_added) (on_lf p end_added))

-- ---- the sheet

unfoldable pub byte_out : ℕ → List ℕ
byte_out b = pick (eqb b 0) [] (b ∷ [])

unfoldable pub out_of : Step → List ℕ
out_of s = byte_out s.mend ++ (byte_out s.byte ++ byte_out s.feed)

unfoldable pub clean_from : ℕ → Standing → List ℕ → List ℕ
clean_from sep p [] = out_of (end_of p)
clean_from sep p (b ∷ r) = out_of (step_of sep p b) ++ clean_from sep (step_of sep p b).spot r

-- where the sheet begins: "byte order mark dropped"
unfoldable pub begins : List ℕ → ℕ
begins s = pick (starts order_mark s) 3 0

unfoldable pub cleaned : List ℕ → List ℕ
cleaned s = clean_from (separator_in s) first_spot (drop (begins s) s)

-- ---- what was changed: how often, and in which line first

abbrev pub unchanged : Tidied
unchanged = record { times = 0; line = 0 }

-- whether a step makes this change; a blank mark is mended beside another change
unfoldable pub makes : ℕ → Step → Bool
makes kind s = not (eqb kind 0) && (eqb s.change kind || (eqb kind zero_put && eqb s.mend 48))

unfoldable pub noted : ℕ → Step → ℕ → Tidied → Tidied
noted kind s line c = pick (makes kind s) (record { times = c.times + 1; line = pick (eqb c.times 0) line c.line }) c

-- a byte LF ends a line
unfoldable pub line_after : ℕ → ℕ → ℕ
line_after line b = line + bit (eqb b lf_byte)

unfoldable pub changes_from : ℕ → ℕ → Standing → ℕ → Tidied → List ℕ → Tidied
changes_from kind sep p line c [] = noted kind (end_of p) line c
changes_from kind sep p line c (b ∷ r) =
    changes_from kind sep (step_of sep p b).spot (line_after line b) (noted kind (step_of sep p b) line c) r

-- the mark of the byte order is dropped once, in line 1
unfoldable pub mark_change : List ℕ → Tidied
mark_change s = pick (starts order_mark s) (record { times = 1; line = 1 }) unchanged

unfoldable pub changes_of : List ℕ → ℕ → Tidied
changes_of s kind =
    pick (eqb kind mark_dropped) (mark_change s)
    (changes_from kind (separator_in s) first_spot 1 unchanged (drop (begins s) s))
