-- The head of a report: "name and size". The name is the title and the heading of the page, escaped.
use Rattle.std.specs.Prelude.{ℕ, List, [], ◌∷◌, ◌++◌}
use Prim.Native.String.{String}
use Rattle.speech.specs.Speech.{bytes}
use Rattle.site.specs.declared.Site.{Site}
use Rattle.phrases.specs.Phrases.{phrase}
use Rattle.phrases.specs.declared.Phrase.{Phrase}
use Rattle.phrases.specs.declared.Phrase.TheVariants.{Row}
use Rattle.escaping.specs.Escaped.{escaped}
use Rattle.say_report.specs.Lines.{report_lines, report_style, doc_row, style_row, body_row, page_size_row, text_end_row}

abbrev pub report_line : ℕ → List ℕ
report_line row = phrase report_lines (Row row 0 0 0 0)

-- lines one after the other
abbrev pub all_lines : List String → List ℕ
all_lines [] = []
all_lines (line ∷ lines) = bytes line ++ all_lines lines

abbrev pub report_look : List ℕ
report_look = all_lines report_style

abbrev pub report_title : List ℕ → List ℕ
report_title name = report_line doc_row ++ (escaped name ++ (report_line style_row ++ (report_look ++ report_line body_row)))

abbrev pub report_size : Site → Phrase
report_size s = Row page_size_row s.cells s.slots s.channels s.rule

abbrev pub report_head : List ℕ → Site → List ℕ
report_head name s = report_title name ++ (escaped name ++ phrase report_lines (report_size s))

-- a part of the page: its row, what a command printed, escaped, and the end of it
abbrev pub report_part : ℕ → List ℕ → List ℕ
report_part row text = report_line row ++ (escaped text ++ report_line text_end_row)
