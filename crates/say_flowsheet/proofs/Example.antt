-- What is said of a sheet of flows, computed letter by letter. Assumes nothing.
use mathlib.Core.List.{[], ◌∷◌}
use mathlib.Core.Path.{◌≡◌, refl}
use Rattle.std.specs.Prelude.{Ok, Err, None}
use Rattle.text.specs.Decimal.{digits_of, decimal}
use Rattle.speech.specs.Speech.{bytes, spoken}
use Rattle.flowsheet.specs.declared.FlowsError.TheVariants as flows
use Rattle.say_refusals.specs.Lines.{refusal_meanings, refusal_heads}
use Rattle.say_refusals.specs.Said.{meaning, refused_line}
use Rattle.say_flowsheet.specs.Said.{flow_sheet_said}

-- 17 with the line; and nothing of a sheet that was read
refused :
    flow_sheet_said (Err (flows.BadLine 3)) ∷ flow_sheet_said (Ok tt) ∷ []
    ≡ bytes "refused 17, line 3: the sheet is malformed: a line is not as the format asks, or is missing, or is one too many\n"
    ∷ [] ∷ []
unfolding refusal_meanings refusal_heads meaning refused_line spoken decimal digits_of
refused = refl

-- and 18 of a sheet as of an admission; the letters are in crate `say_refusals`
many-said : flow_sheet_said (Err flows.TooMany) ≡ refused_line 18 None
many-said = refl
