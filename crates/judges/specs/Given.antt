-- "Numbers given back": for each case of a verdict, document 01's number and the values that come with it. A verdict is done, 0.
use Rattle.std.specs.Prelude.{[], ◌∷◌, Result, Ok, Err}
use Rattle.site.specs.Given.{Given, fault_given}
use Rattle.site.specs.declared.Fault.{Fault}
use Rattle.judges.specs.declared.LoadVerdict.{LoadVerdict}
use Rattle.judges.specs.declared.LoadVerdict.TheVariants as load
use Rattle.judges.specs.declared.ChainVerdict.{ChainVerdict}
use Rattle.judges.specs.declared.ChainVerdict.TheVariants as chain
use Rattle.judges.specs.declared.ClassVerdict.{ClassVerdict}
use Rattle.judges.specs.declared.ClassVerdict.TheVariants as class
use Rattle.judges.specs.declared.LeastVerdict.{LeastVerdict}
use Rattle.judges.specs.declared.LeastVerdict.TheVariants as least

-- the load test holds: nothing; or the cell that is over, and by how much; the record's 1, 24, 2, 3 and 20
abbrev pub load_given : Result LoadVerdict Fault → Given
load_given (Ok load.Holds) = record { number = 0; values = [] }
load_given (Ok (load.Over cell excess)) = record { number = 0; values = cell ∷ excess ∷ [] }
load_given (Err f) = fault_given f

-- chained: nothing; or the triple a, b, c; the record's 1, 24, 2, 3 and 20
abbrev pub chain_given : Result ChainVerdict Fault → Given
chain_given (Ok chain.Chained) = record { number = 0; values = [] }
chain_given (Ok (chain.Broken a b c)) = record { number = 0; values = a ∷ b ∷ c ∷ [] }
chain_given (Err f) = fault_given f

-- in the class: nothing; or the cells a, b, i; the record's 1, 24, 2, 3 and 20
abbrev pub class_given : Result ClassVerdict Fault → Given
class_given (Ok class.InClass) = record { number = 0; values = [] }
class_given (Ok (class.Outside a b i)) = record { number = 0; values = a ∷ b ∷ i ∷ [] }
class_given (Err f) = fault_given f

-- how many open channel-slots do, and then 0 where fewer do not, 1 where fewer may; the record's 1, 24, 2, 3 and 20
abbrev pub least_given : Result LeastVerdict Fault → Given
least_given (Ok (least.Least n)) = record { number = 0; values = n ∷ 0 ∷ [] }
least_given (Ok (least.Enough n)) = record { number = 0; values = n ∷ 1 ∷ [] }
least_given (Err f) = fault_given f
