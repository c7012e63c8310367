-- The page of a report: "one page to file or to mail; prints on A4; no script in it". Its parts, one to a row, between which the texts stand. @1 to @4 are the
-- values of a row, @a to @c the s of a plural.
use Rattle.std.specs.Prelude.{ℕ, List, [], ◌∷◌}
use Prim.Native.String.{String}

unfoldable pub report_lines : List String
report_lines =
    "<!DOCTYPE html>\n<html lang=\"en\">\n<head>\n<meta charset=\"utf-8\"/>\n<meta name=\"viewport\" content=\"width=device-width\"/>\n<title>"
    ∷ "</title>\n<style>"
    ∷ "</style>\n</head>\n<body>\n<h1>"
    ∷ "</h1>\n<p>@1 cell@a, @2 slot@b, @3 channel@c, rule @4</p>\n"
    ∷ "<section>\n<h2>What can be said of the site</h2>\n<pre>"
    ∷ "<section>\n<h2>The plan is not valid</h2>\n<pre>"
    ∷ "<section>\n<h2>The plan, cell by cell</h2>\n<pre>"
    ∷ "<section>\n<h2>The given plan, cell by cell</h2>\n<pre>"
    ∷ "<section>\n<h2>The flows</h2>\n<pre>"
    ∷ "<section>\n<h2>What mends the plan</h2>\n<pre>"
    ∷ "</pre>\n</section>\n"
    ∷ "<section class=\"picture\">\n<h2>The site and its plan</h2>\n"
    ∷ "</section>\n"
    ∷ "<section>\n<h2>The plan, cell by cell</h2>\n<p>No plan is found.</p>\n</section>\n"
    ∷ "</body>\n</html>\n"
    ∷ []

-- how it looks, on a screen and on paper: a text of its own, since it has an @ in it
unfoldable pub report_style : List String
report_style =
    "\n@page { size: A4; margin: 15mm; }\n"
    ∷ "body { font-family: sans-serif; line-height: 1.4; max-width: 60em; margin: 1em auto; padding: 0 1em; color: black; background: white; }\n"
    ∷ "h1 { font-size: 1.4em; overflow-wrap: anywhere; }\n"
    ∷ "h2 { font-size: 1.1em; break-after: avoid; }\n"
    ∷ "pre { font-size: 0.85em; white-space: pre-wrap; overflow-wrap: anywhere; }\n"
    ∷ "svg { max-width: 100%; height: auto; }\n"
    ∷ ".picture { break-inside: avoid; }\n"
    ∷ "@media print { body { max-width: none; margin: 0; padding: 0; } pre { orphans: 4; widows: 4; } svg { max-height: 240mm; } }\n"
    ∷ []

-- ---- the rows by name

-- up to the title
abbrev pub doc_row : ℕ
doc_row = 0

abbrev pub style_row : ℕ
style_row = 1

abbrev pub body_row : ℕ
body_row = 2

-- the cells, slots, channels and the rule
abbrev pub page_size_row : ℕ
page_size_row = 3

-- the parts of the page, each up to its text
abbrev pub why_row : ℕ
why_row = 4

abbrev pub wrong_row : ℕ
wrong_row = 5

abbrev pub found_row : ℕ
found_row = 6

abbrev pub given_row : ℕ
given_row = 7

abbrev pub flows_row : ℕ
flows_row = 8

abbrev pub mend_row : ℕ
mend_row = 9

-- after a text
abbrev pub text_end_row : ℕ
text_end_row = 10

-- before and after the picture
abbrev pub picture_row : ℕ
picture_row = 11

abbrev pub picture_end_row : ℕ
picture_end_row = 12

-- in place of a plan
abbrev pub page_no_plan_row : ℕ
page_no_plan_row = 13

-- the page's end
abbrev pub page_end_row : ℕ
page_end_row = 14
