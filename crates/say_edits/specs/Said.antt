-- Which part says what: "`load CELL=LOAD`, `reach FROM-TO`, `clear FROM-TO`, `blocked LIST`, `rule R`, `slots T`, `channels F`".
use Rattle.std.specs.Prelude.{ℕ, List, Option, Some, None}
use Rattle.phrases.specs.Phrases.{phrase}
use Rattle.phrases.specs.declared.Phrase.{Phrase}
use Rattle.phrases.specs.declared.Phrase.TheVariants.{Row}
use Rattle.editlist.specs.declared.Kind.{Kind}
use Rattle.editlist.specs.declared.Kind.TheVariants.{OfLoad, OfReach, OfClear, OfBlocked, OfRule, OfSlots, OfChannels}
use Rattle.say_edits.specs.Lines.{edit_lines}
use Rattle.say_edits.specs.declared.Part.{Part}
use Rattle.say_edits.specs.declared.Part.TheVariants.{NoneGiven, Quoted, NoName, After, Nothing, Stands, Closed, Blank, Colon, BadList, Takes}

-- the row of what an edit takes; a name of no edit takes nothing, and has the row that says so
abbrev pub takes_row : Option Kind → ℕ
takes_row None = 2
takes_row (Some OfLoad) = 10
takes_row (Some OfReach) = 11
takes_row (Some OfClear) = 11
takes_row (Some OfBlocked) = 12
takes_row (Some OfRule) = 13
takes_row (Some OfSlots) = 14
takes_row (Some OfChannels) = 15

abbrev pub part_phrase : Part → Phrase
part_phrase NoneGiven = Row 0 0 0 0 0
part_phrase Quoted = Row 1 0 0 0 0
part_phrase NoName = Row 2 0 0 0 0
part_phrase After = Row 3 0 0 0 0
part_phrase Nothing = Row 4 0 0 0 0
part_phrase Stands = Row 5 0 0 0 0
part_phrase Closed = Row 6 0 0 0 0
part_phrase Blank = Row 7 0 0 0 0
part_phrase Colon = Row 8 0 0 0 0
part_phrase (BadList character) = Row 9 character 0 0 0
part_phrase (Takes kind) = Row (takes_row kind) 0 0 0 0

abbrev pub part_said : Part → List ℕ
part_said part = phrase edit_lines (part_phrase part)
