-- The lines of edits that are typed wrongly, computed letter by letter, with the words between their parts. Assumes nothing.
use mathlib.Core.List.{[], ◌∷◌, ◌++◌}
use mathlib.Core.Path.{◌≡◌, refl}
use Rattle.std.specs.Prelude.{Some}
use Rattle.text.specs.Decimal.{digits_of, decimal}
use Rattle.speech.specs.Speech.{bytes, spoken}
use Rattle.editlist.specs.declared.Kind.TheVariants.{OfLoad, OfReach, OfClear, OfBlocked, OfRule, OfSlots, OfChannels}
use Rattle.say_edits.specs.Lines.{edit_lines}
use Rattle.say_edits.specs.Said.{part_said}
use Rattle.say_edits.specs.declared.Part.TheVariants.{NoneGiven, Quoted, NoName, After, Nothing, Stands, Closed, Blank, Colon, BadList, Takes}

lines-said :
    part_said NoneGiven
    ∷ (part_said Quoted ++ bytes "laod" ++ part_said NoName)
    ∷ (part_said After ++ bytes "load" ++ part_said Nothing ++ part_said (Takes (Some OfLoad)))
    ∷ (part_said After ++ bytes "clear" ++ part_said Stands ++ bytes "1>2" ++ part_said Closed ++ part_said (Takes (Some OfClear)))
    ∷ (bytes "blocked" ++ part_said Blank ++ bytes "1.1,9.1" ++ part_said Colon ++ part_said (BadList 5))
    ∷ []
    ≡ bytes "set: no edit is given; the edits are load, reach, clear, blocked, rule, slots and channels\n"
    ∷ bytes "set: 'laod' is no edit; the edits are load, reach, clear, blocked, rule, slots and channels\n"
    ∷ bytes "set: after load stands nothing; it takes CELL=LOAD\n"
    ∷ bytes "set: after clear stands '1>2'; it takes FROM-TO\n"
    ∷ bytes "blocked 1.1,9.1: at character 5 stands no slot.channel of this site\n"
    ∷ []
unfolding edit_lines spoken decimal digits_of
lines-said = refl

-- what the others take
takes-said :
    part_said (Takes (Some OfReach))
    ∷ part_said (Takes (Some OfBlocked))
    ∷ part_said (Takes (Some OfRule))
    ∷ part_said (Takes (Some OfSlots))
    ∷ part_said (Takes (Some OfChannels))
    ∷ []
    ≡ bytes "; it takes FROM-TO\n"
    ∷ bytes "; it takes a LIST or none\n"
    ∷ bytes "; it takes R\n"
    ∷ bytes "; it takes T\n"
    ∷ bytes "; it takes F\n"
    ∷ []
unfolding edit_lines spoken decimal digits_of
takes-said = refl
