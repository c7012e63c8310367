-- "Numbers given back": for each case of the two answers its number and the values that come with it, in their order.
use Rattle.std.specs.Prelude.{[], Result, Ok, Err}
use Rattle.site.specs.Given.{Given, fault_given}
use Rattle.numbering.specs.declared.RenumberError.{RenumberError}
use Rattle.numbering.specs.declared.RenumberError.TheVariants as renumber
use Rattle.numbering.specs.declared.CarryError.{CarryError}
use Rattle.numbering.specs.declared.CarryError.TheVariants as carry

-- 0 done; 23, no such numbering; the record's 1, 24, 2, 3 and 20
abbrev pub renumber_given : Result Unit RenumberError → Given
renumber_given (Ok u) = record { number = 0; values = [] }
renumber_given (Err renumber.NoNumbering) = record { number = 23; values = [] }
renumber_given (Err (renumber.Record f)) = fault_given f

-- 0 done; 23; 4 for either table; the record's 1, 24, 2, 3 and 20
abbrev pub carry_given : Result Unit CarryError → Given
carry_given (Ok u) = record { number = 0; values = [] }
carry_given (Err carry.NoNumbering) = record { number = 23; values = [] }
carry_given (Err carry.TableShort) = record { number = 4; values = [] }
carry_given (Err (carry.Record f)) = fault_given f
