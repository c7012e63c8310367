-- Which file it is, computed: P1's site file and its plan file, cut after the kind of the second record, the first lines of both sheets, and what is none
-- of them; and the text. Assumes nothing.
use mathlib.Core.Path.{◌≡◌, refl}
use mathlib.Core.List.{[], ◌∷◌}
use Rattle.lines.specs.Match.{starts}
use Rattle.speech.specs.Speech.{bytes, spoken}
use Rattle.inputs.specs.Files.{by_kind, house_file, input_of}
use Rattle.inputs.specs.Lines.{input_lines}
use Rattle.inputs.specs.Said.{file_said}
use Rattle.inputs.specs.declared.Input.TheVariants.{SiteFile, PlanFile, RangeSheet, FlowSheet, Other}

site-file : input_of (8 ∷ 0 ∷ 1 ∷ 0 ∷ 3 ∷ 0 ∷ 3 ∷ 0 ∷ 2 ∷ 0 ∷ 8 ∷ 0 ∷ 2 ∷ 0 ∷ []) ≡ SiteFile
unfolding input_of house_file by_kind starts
site-file = refl

ruled-file : input_of (10 ∷ 0 ∷ 5 ∷ 0 ∷ 3 ∷ 0 ∷ 3 ∷ 0 ∷ 2 ∷ 0 ∷ 2 ∷ 0 ∷ 8 ∷ 0 ∷ []) ≡ SiteFile
unfolding input_of house_file by_kind starts
ruled-file = refl

plan-file : input_of (8 ∷ 0 ∷ 1 ∷ 0 ∷ 3 ∷ 0 ∷ 3 ∷ 0 ∷ 2 ∷ 0 ∷ 5 ∷ 0 ∷ 4 ∷ 0 ∷ []) ≡ PlanFile
unfolding input_of house_file by_kind starts
plan-file = refl

cut-file : input_of (8 ∷ 0 ∷ 1 ∷ 0 ∷ 3 ∷ 0 ∷ 3 ∷ 0 ∷ 2 ∷ 0 ∷ 5 ∷ 0 ∷ 4 ∷ []) ≡ Other
unfolding input_of house_file by_kind starts
cut-file = refl

range-sheet : input_of (bytes "cell,load,1\n1,0,0\n") ≡ RangeSheet
unfolding input_of starts
range-sheet = refl

flow-sheet : input_of (bytes "cell,burst,period,repeats,value\r\n") ≡ FlowSheet
unfolding input_of starts
flow-sheet = refl

another : input_of (bytes "cell by cell, and so on") ≡ Other
unfolding input_of house_file by_kind starts
another = refl

-- each file as what came, and as what was asked for
others-said :
    file_said PlanFile SiteFile ∷ file_said SiteFile PlanFile ∷ file_said RangeSheet FlowSheet ∷ file_said FlowSheet RangeSheet ∷ []
    ≡ bytes " is a plan file; a site file is asked for: "
    ∷ bytes " is a site file; a plan file is asked for: "
    ∷ bytes " is a range sheet; a sheet of flows is asked for: "
    ∷ bytes " is a sheet of flows; a range sheet is asked for: " ∷ []
unfolding file_said input_lines spoken
others-said = refl

-- the one that was asked for, and none
nothing_said : file_said SiteFile SiteFile ∷ file_said Other PlanFile ∷ [] ≡ bytes ": " ∷ bytes ": " ∷ []
unfolding file_said input_lines spoken
nothing_said = refl
