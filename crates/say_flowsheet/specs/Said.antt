-- What is said of a sheet of flows that was read.
use Rattle.std.specs.Prelude.{List, [], ℕ, Result, Ok, Err, Some, None}
use Rattle.flowsheet.specs.declared.FlowsError.{FlowsError}
use Rattle.flowsheet.specs.declared.FlowsError.TheVariants as flows
use Rattle.say_refusals.specs.Said.{refused_line}
use Rattle.say_refusals.specs.declared.Place.TheVariants as place

-- a sheet that was read: nothing to say; 17 and the line; or 18
abbrev pub flow_sheet_said : Result Unit FlowsError → List ℕ
flow_sheet_said (Ok u) = []
flow_sheet_said (Err (flows.BadLine line)) = refused_line 17 (Some (place.Line line))
flow_sheet_said (Err flows.TooMany) = refused_line 18 None
