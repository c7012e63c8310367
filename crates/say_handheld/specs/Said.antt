-- The text of `duggfrask load`: W14, "One load changes on the handheld."
use Rattle.std.specs.Prelude.{ℕ, List, Result, Ok, Err, None}
use Rattle.phrases.specs.Phrases.{phrase}
use Rattle.phrases.specs.declared.Phrase.TheVariants.{Row}
use Rattle.handheld.specs.declared.ChangeError.{ChangeError}
use Rattle.handheld.specs.declared.ChangeError.TheVariants.{TableShort, NotPlan, NoRoom, Record}
use Rattle.say_refusals.specs.Said.{refused_line}
use Rattle.verdicts.specs.Said.{fault_said}
use Rattle.say_handheld.specs.Lines.{handheld_lines, changed_row, lacking_row}

-- the cell by its number and its new load, where the change is done; 4; 26; the first cell without room and how many of its fragments are short; or what is
-- wrong with the record or the edit
abbrev pub change_said : (cell load : ℕ) → Result Unit ChangeError → List ℕ
change_said cell load (Ok u) = phrase handheld_lines (Row changed_row cell load 0 0)
change_said cell load (Err TableShort) = refused_line 4 None
change_said cell load (Err NotPlan) = refused_line 26 None
change_said cell load (Err (NoRoom lacking short)) = phrase handheld_lines (Row lacking_row lacking short 0 0)
change_said cell load (Err (Record f)) = fault_said f
