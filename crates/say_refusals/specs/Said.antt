-- The text of a refusal: one line on standard error that says the number, what it means, as docs/NUMBERS.md says it, and the place.
use Rattle.std.specs.Prelude.{ℕ, List, ◌++◌, ltb, length, Option, Some, None}
use Rattle.laws.specs.Choice.{pick}
use Rattle.phrases.specs.Phrases.{phrase}
use Rattle.phrases.specs.declared.Phrase.{Phrase}
use Rattle.phrases.specs.declared.Phrase.TheVariants.{Row}
use Rattle.say_refusals.specs.Lines.{refusal_meanings, refusal_heads, alone_row, byte_row, plan_byte_row, line_row, at_cell_row, flow_row, position_row}
use Rattle.say_refusals.specs.declared.Place.{Place}
use Rattle.say_refusals.specs.declared.Place.TheVariants.{Byte, PlanByte, Line, Cell, Flow, Position}

-- what a number means: its row, or row 0 where there is none
abbrev pub meaning_phrase : ℕ → Phrase
meaning_phrase number = Row (pick (ltb number (length refusal_meanings)) number 0) 0 0 0 0

unfoldable pub meaning : ℕ → List ℕ
meaning number = phrase refusal_meanings (meaning_phrase number)

-- the number, and the place
abbrev pub head_phrase : ℕ → Option Place → Phrase
head_phrase number None = Row alone_row number 0 0 0
head_phrase number (Some (Byte offset)) = Row byte_row number offset 0 0
head_phrase number (Some (PlanByte offset)) = Row plan_byte_row number offset 0 0
head_phrase number (Some (Line line)) = Row line_row number line 0 0
head_phrase number (Some (Cell cell)) = Row at_cell_row number cell 0 0
head_phrase number (Some (Flow flow)) = Row flow_row number flow 0 0
head_phrase number (Some (Position position)) = Row position_row number position 0 0

abbrev pub head : ℕ → Option Place → List ℕ
head number place = phrase refusal_heads (head_phrase number place)

-- the line
unfoldable pub refused_line : ℕ → Option Place → List ℕ
refused_line number place = head number place ++ meaning number
