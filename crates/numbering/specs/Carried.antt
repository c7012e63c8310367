-- What `carry` answers and what it leaves in the lent table, for any site and any two tables. W10: "A second call, given the old site, carries a new-numbered
-- table's rows byte for byte into another lent table in old numbers".
use Rattle.std.specs.Prelude.{Bool, ◌||◌, List, ℕ, ltb, length, Result, Ok, Err}
use Rattle.laws.specs.Choice.{pick}
use Rattle.site.specs.Record.{positions, size}
use Rattle.site.specs.declared.Site.{Site}
use Rattle.renumbering.specs.Numbering.{index_at}
use Rattle.renumbering.specs.Carry.{carried}
use Rattle.numberrows.specs.declared.Numbers.{Numbers}
use Rattle.numbering.specs.Renumber.{site_numbers}
use Rattle.numbering.specs.declared.RenumberError.{RenumberError}
use Rattle.numbering.specs.declared.RenumberError.TheVariants as renumber
use Rattle.numbering.specs.declared.CarryError.{CarryError}
use Rattle.numbering.specs.declared.CarryError.TheVariants.{NoNumbering, TableShort, Record}

-- "then 4 for either table"
abbrev pub either_short : Site → List ℕ → List ℕ → Bool
either_short s from to = ltb (length from) (size s) || ltb (length to) (size s)

-- a site that is not renumbered is refused as `renumber` refuses it
abbrev pub carry_refused : RenumberError → CarryError
carry_refused renumber.NoNumbering = NoNumbering
carry_refused (renumber.Record f) = Record f

abbrev pub carry_answer_by : Bool → Result Numbers RenumberError → Result Unit CarryError
carry_answer_by short (Ok n) = pick short (Err TableShort) (Ok tt)
carry_answer_by short (Err refused) = Err (carry_refused refused)

-- no refusal writes
abbrev pub carry_table_by : Site → List ℕ → List ℕ → Result Numbers RenumberError → List ℕ
carry_table_by s from to (Ok n) = pick (either_short s from to) to (carried (index_at n.new) (positions s) from to s.cells)
carry_table_by s from to (Err refused) = to

-- "Refusals: 23, no such numbering, after 20": the record's faults, 23, then 4
unfoldable pub carry_answer : Site → List ℕ → List ℕ → Result Unit CarryError
carry_answer s from to = carry_answer_by (either_short s from to) (site_numbers s)

unfoldable pub carry_table : Site → List ℕ → List ℕ → List ℕ
carry_table s from to = carry_table_by s from to (site_numbers s)
