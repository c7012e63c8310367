-- The text of `duggfrask renumber` and `duggfrask carry`: W10, "Return old and new numbers and the renumbered site."
use Rattle.std.specs.Prelude.{ℕ, zero, suc, ◌+◌, List, [], ◌++◌, eqb, get_or, Result, Ok, Err, None}
use Rattle.laws.specs.Choice.{pick}
use Rattle.phrases.specs.Phrases.{phrase}
use Rattle.phrases.specs.declared.Phrase.{Phrase}
use Rattle.phrases.specs.declared.Phrase.TheVariants.{Silent, Row}
use Rattle.numbering.specs.declared.RenumberError.{RenumberError}
use Rattle.numbering.specs.declared.RenumberError.TheVariants as renumber
use Rattle.numbering.specs.declared.CarryError.{CarryError}
use Rattle.numbering.specs.declared.CarryError.TheVariants as carry
use Rattle.say_refusals.specs.Said.{refused_line}
use Rattle.verdicts.specs.Said.{fault_said}
use Rattle.say_numbering.specs.Lines.{number_lines, numbered_row}

-- a cell by its old number, and its new one; past the cells there is none, 0
abbrev pub number_phrase : (cell number : ℕ) → Phrase
number_phrase cell number = pick (eqb number 0) Silent (Row numbered_row cell number 0 0)

-- the first i places of the new numbers, in the order of the old ones
unfoldable pub numbers_said : List ℕ → ℕ → List ℕ
numbers_said new zero = []
numbers_said new (suc i) = numbers_said new i ++ phrase number_lines (number_phrase (i + 1) (get_or new i 0))

-- the numbers; 23; or what is wrong with the record
abbrev pub renumber_said : List ℕ → Result Unit RenumberError → List ℕ
renumber_said new (Ok u) = numbers_said new 32
renumber_said new (Err renumber.NoNumbering) = refused_line 23 None
renumber_said new (Err (renumber.Record f)) = fault_said f

-- a plan that was carried: nothing to say; 23; 4; or what is wrong with the record
abbrev pub carry_said : Result Unit CarryError → List ℕ
carry_said (Ok u) = []
carry_said (Err carry.NoNumbering) = refused_line 23 None
carry_said (Err carry.TableShort) = refused_line 4 None
carry_said (Err (carry.Record f)) = fault_said f
