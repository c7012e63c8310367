-- Refusals letter by letter: each number with its meaning, and each place by its own name, the number and the place told apart. Assumes nothing.
use mathlib.Core.Path.{◌≡◌, refl}
use mathlib.Core.List.{[], ◌∷◌}
use Rattle.std.specs.Prelude.{Some, None}
use Rattle.text.specs.Decimal.{digits_of, decimal}
use Rattle.speech.specs.Speech.{bytes, spoken}
use Rattle.say_refusals.specs.Lines.{refusal_meanings, refusal_heads}
use Rattle.say_refusals.specs.Said.{meaning, refused_line}
use Rattle.say_refusals.specs.declared.Place.TheVariants.{Byte, PlanByte, Line, Cell, Flow, Position}

-- of a record, a flow's cell, a table, a numbering, a search and a change of a load
records-said :
    refused_line 1 None ∷ refused_line 2 (Some (Cell 5)) ∷ refused_line 2 (Some (Flow 7)) ∷ refused_line 3 (Some (Cell 4)) ∷ refused_line 4 None
    ∷ refused_line 20 (Some (Position 6)) ∷ refused_line 23 None ∷ refused_line 24 None ∷ refused_line 25 None ∷ refused_line 26 None ∷ []
    ≡ bytes "refused 1: the size is out of range: a site has 1 to 32 cells, 1 to 128 slots and 1 to 16 channels\n"
    ∷ bytes "refused 2, cell 5: a load or a flow is for a cell that the site does not have\n"
    ∷ bytes "refused 2, flow 7: a load or a flow is for a cell that the site does not have\n"
    ∷ bytes "refused 3, cell 4: the reach has a cell that reaches itself, or a cell that the site does not have\n"
    ∷ bytes "refused 4: the table is too short\n"
    ∷ bytes "refused 20, position 6: a blocked position is one that the site does not have: its slots and channels end before it\n"
    ∷ bytes "refused 23: no numbering makes the site nested when all its cells count, the spare ones too\n"
    ∷ bytes "refused 24: the rule is not 1 or 2, or not 2 where a site file says it\n"
    ∷ bytes "refused 25: too large to search: the site has more than 64 open positions or more than 24 fragments in all\n"
    ∷ bytes "refused 26: the table is not the plan of the site as it is, so that one load can't be changed in it\n" ∷ []
unfolding refusal_meanings refusal_heads meaning refused_line spoken decimal digits_of
records-said = refl

-- of a site file and of a plan file
files-said :
    refused_line 8 (Some (Byte 20)) ∷ refused_line 9 (Some (PlanByte 10)) ∷ refused_line 10 (Some (Byte 0)) ∷ refused_line 11 (Some (Byte 18))
    ∷ refused_line 12 (Some (PlanByte 28)) ∷ refused_line 13 None ∷ refused_line 14 (Some (PlanByte 10)) ∷ refused_line 21 (Some (Byte 28)) ∷ []
    ≡ bytes "refused 8, byte 20 of the site file: the file ends too early: inside a record, or before one that has to be there\n"
    ∷ bytes "refused 9, byte 10 of the plan file: a record of another kind has to stand there\n"
    ∷ bytes "refused 10, byte 0 of the site file: the length of a record is not the one that belongs to it\n"
    ∷ bytes "refused 11, byte 18 of the site file: the reach pairs are out of order, or one stands twice\n"
    ∷ bytes "refused 12, byte 28 of the plan file: the file goes on after its last record\n"
    ∷ bytes "refused 13: the lent output is too short\n"
    ∷ bytes "refused 14, byte 10 of the plan file: a bit past the last position is set\n"
    ∷ bytes "refused 21, byte 28 of the site file: the record of blocked positions blocks none\n" ∷ []
unfolding refusal_meanings refusal_heads meaning refused_line spoken decimal digits_of
files-said = refl

-- of flows and of sheets
flows-said :
    refused_line 15 (Some (Flow 3)) ∷ refused_line 16 (Some (Flow 12)) ∷ refused_line 17 (Some (Line 2)) ∷ refused_line 18 None
    ∷ refused_line 19 None ∷ []
    ≡ bytes "refused 15, flow 3: the burst or the period of a flow is not 1 to 65,535, or its repeats are not 1 to 4\n"
    ∷ bytes "refused 16, flow 12: the flow needs a share above 65,535 fragments in a superframe, its repeats counted\n"
    ∷ bytes "refused 17, line 2: the sheet is malformed: a line is not as the format asks, or is missing, or is one too many\n"
    ∷ bytes "refused 18: more than 16 flows ask to be admitted\n"
    ∷ bytes "refused 19: the site is not nested when all its cells count, the spare ones too\n" ∷ []
unfolding refusal_meanings refusal_heads meaning refused_line spoken decimal digits_of
flows-said = refl
