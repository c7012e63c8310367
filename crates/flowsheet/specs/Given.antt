-- "Numbers given back": for each case of the reader's answer, the documents' number and the values that come with it. The flows stand beside it.
use Rattle.std.specs.Prelude.{[], ◌∷◌, Result, Ok, Err}
use Rattle.site.specs.Given.{Given}
use Rattle.flowsheet.specs.declared.FlowsError.{FlowsError}
use Rattle.flowsheet.specs.declared.FlowsError.TheVariants.{BadLine, TooMany}

-- 0 done; 17, malformed, with the first bad line; "18 over 16 flows"
abbrev pub flows_given : Result Unit FlowsError → Given
flows_given (Ok u) = record { number = 0; values = [] }
flows_given (Err (BadLine line)) = record { number = 17; values = line ∷ [] }
flows_given (Err TooMany) = record { number = 18; values = [] }
