-- "Numbers given back": for each case of an admission's answer, its number and the values that come with it; and the same on top of the loads.
-- A flow's refusal carries the flow's number, a record's its own value.
-- A flow's 2 looks as the record's 2 does: a C caller asks the record's own call for faults to know which it is.
use Rattle.std.specs.Prelude.{ℕ, Bool, true, false, [], ◌∷◌, Result, Ok, Err}
use Rattle.site.specs.Given.{Given, fault_given}
use Rattle.admission.specs.declared.AdmitError.{AdmitError}
use Rattle.admission.specs.declared.AdmitError.TheVariants.{TooMany, NotNested, BadCell, BadFlow, BigShare, Record}
use Rattle.admission.specs.declared.BesideError.{BesideError}
use Rattle.admission.specs.declared.BesideError.TheVariants.{Over, Admit}

-- 0 done, with the set's number; 18 and 19 carry nothing; 2, 15 and 16 with the flow's number; the record's 1, 24, 2, 3 and 20
abbrev pub admit_given : Result ℕ AdmitError → Given
admit_given (Ok set) = record { number = 0; values = set ∷ [] }
admit_given (Err TooMany) = record { number = 18; values = [] }
admit_given (Err NotNested) = record { number = 19; values = [] }
admit_given (Err (BadCell flow)) = record { number = 2; values = flow ∷ [] }
admit_given (Err (BadFlow flow)) = record { number = 15; values = flow ∷ [] }
admit_given (Err (BigShare flow)) = record { number = 16; values = flow ∷ [] }
admit_given (Err (Record f)) = fault_given f

-- whether the record is refused
abbrev pub of_record : Result ℕ AdmitError → Bool
of_record (Ok set) = false
of_record (Err TooMany) = false
of_record (Err NotNested) = false
of_record (Err (BadCell flow)) = false
of_record (Err (BadFlow flow)) = false
of_record (Err (BigShare flow)) = false
of_record (Err (Record f)) = true

-- ---- on top of the loads that the site has: the same, and 5 with the cell that is over and by how much

abbrev pub beside_given : Result ℕ BesideError → Given
beside_given (Ok set) = admit_given (Ok set)
beside_given (Err (Admit refused)) = admit_given (Err refused)
beside_given (Err (Over cell excess)) = record { number = 5; values = cell ∷ excess ∷ [] }

abbrev pub beside_record : Result ℕ BesideError → Bool
beside_record (Ok set) = false
beside_record (Err (Admit refused)) = of_record (Err refused)
beside_record (Err (Over cell excess)) = false
