-- What is said of a bad line, of a tidied sheet, and of a site that was made of a sheet.
use Rattle.std.specs.Prelude.{ℕ, zero, suc, ◌+◌, not, List, [], ◌++◌, eqb, Option, Some, None, Result, Ok, Err}
use Rattle.laws.specs.Choice.{pick}
use Rattle.laws.specs.Search.{first}
use Rattle.site.specs.declared.Site.{Site}
use Rattle.clashcount.specs.Count.{clash_count}
use Rattle.cleaning.specs.Clean.{changes_of}
use Rattle.cleaning.specs.declared.Tidied.{Tidied}
use Rattle.linefaults.specs.Fault.{fault_of_line}
use Rattle.linefaults.specs.declared.LineFault.{LineFault}
use Rattle.linefaults.specs.declared.LineFault.TheVariants.{Missing, Extra, OrderMark, Semicolon, Tab, Quote, Blank, FeedAlone, NoEnd}
use Rattle.linefaults.specs.declared.LineFault.TheVariants.{LeadingZero, OverLarge, NoNumber, NoMark, FewFields, ManyFields, LoneCr}
use Rattle.sheet.specs.declared.SheetError.{SheetError}
use Rattle.sheet.specs.declared.SheetError.TheVariants as sheet
use Rattle.tidying.specs.declared.TidyError.{TidyError}
use Rattle.tidying.specs.declared.TidyError.TheVariants as tidying
use Rattle.phrases.specs.Phrases.{phrase}
use Rattle.phrases.specs.declared.Phrase.{Phrase}
use Rattle.phrases.specs.declared.Phrase.TheVariants.{Row}
use Rattle.say_refusals.specs.Said.{refused_line}
use Rattle.verdicts.specs.Said.{sheet_said}
use Rattle.say_sheets.specs.Lines.{line_fault_lines, tidy_lines, made_lines, once_row, often_row, tidied_row, as_it_is_row, not_tidied_row}

-- ---- a sheet that is refused

-- the row of a reason, and its character or column; 0 where it has none
abbrev pub fault_row : LineFault → ℕ × ℕ
fault_row Missing = (0, 0)
fault_row Extra = (1, 0)
fault_row OrderMark = (2, 0)
fault_row (Semicolon at) = (3, at)
fault_row (Tab at) = (4, at)
fault_row (Quote at) = (5, at)
fault_row (Blank at) = (6, at)
fault_row FeedAlone = (7, 0)
fault_row NoEnd = (8, 0)
fault_row (LeadingZero column) = (9, column)
fault_row (OverLarge column) = (10, column)
fault_row (NoNumber column) = (11, column)
fault_row (NoMark column) = (12, column)
fault_row (FewFields column) = (13, column)
fault_row (ManyFields column) = (14, column)
fault_row (LoneCr at) = (15, at)

-- the reason, with the line and the place
abbrev pub line_fault_said : ℕ → LineFault → List ℕ
line_fault_said line f = let w = fault_row f in phrase line_fault_lines (Row w.0 line w.1 0 0)

-- "A range sheet's 17 says why, where it can be told"; else it says what the number means
abbrev pub fault_or_refusal : ℕ → Option LineFault → List ℕ
fault_or_refusal line None = sheet_said (Err (sheet.BadLine line))
fault_or_refusal line (Some f) = line_fault_said line f

abbrev pub bad_line_said : List ℕ → ℕ → List ℕ
bad_line_said b line = fault_or_refusal line (fault_of_line b line)

-- nothing to say; 17 and the line; or what is wrong with the site
abbrev pub sheet_refused_said : List ℕ → Result Unit SheetError → List ℕ
sheet_refused_said b (Ok u) = sheet_said (Ok u)
sheet_refused_said b (Err (sheet.BadLine line)) = bad_line_said b line
sheet_refused_said b (Err (sheet.Record f)) = sheet_said (Err (sheet.Record f))

-- ---- a sheet that is tidied

-- the line of a change, or the first of several and how often
abbrev pub place_phrase : Tidied → Phrase
place_phrase c = pick (eqb c.times 1) (Row once_row c.line 0 0 0) (Row often_row c.line c.times 0 0)

-- "each thing that was changed is named, with its line": nothing of a change that was not made
abbrev pub named_said : ℕ → Tidied → List ℕ
named_said kind c = pick (eqb c.times 0) [] (phrase tidy_lines (place_phrase c) ++ phrase tidy_lines (Row kind 0 0 0 0))

-- the first k kinds of changes
unfoldable pub tidy_changes_said : List ℕ → ℕ → List ℕ
tidy_changes_said s zero = []
tidy_changes_said s (suc k) = tidy_changes_said s k ++ named_said (suc k) (changes_of s (suc k))

-- the number, less 1, of the first change that is made; 8 where none is
unfoldable pub first_change : List ℕ → ℕ
first_change s = first (λ k. not (eqb (changes_of s (k + 1)).times 0)) 0 8

abbrev pub tidied_said : List ℕ → List ℕ
tidied_said s =
    pick (eqb (first_change s) 8) (phrase tidy_lines (Row as_it_is_row 0 0 0 0)) (phrase tidy_lines (Row tidied_row 0 0 0 0) ++ tidy_changes_said s 8)

-- what was changed; 13; or "a sheet that can't be tidied is refused with its line"
abbrev pub tidy_said : List ℕ → Result ℕ TidyError → List ℕ
tidy_said s (Ok n) = tidied_said s
tidy_said s (Err (tidying.OutShort n)) = refused_line 13 None
tidy_said s (Err (tidying.BadLine line)) = phrase tidy_lines (Row not_tidied_row line 0 0 0)

-- ---- a site that is made

-- "`site` says what it made: so many cells, slots, channels, clashes"
abbrev pub made_phrase : Site → Phrase
made_phrase s = Row (pick (eqb (clash_count s) 1) 1 0) s.cells s.slots s.channels (clash_count s)

abbrev pub made_said : Site → List ℕ
made_said s = phrase made_lines (made_phrase s)
