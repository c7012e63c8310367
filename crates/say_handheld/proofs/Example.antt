-- What is said of a change of one load, computed letter by letter: P6, where cell 5 is given load 0; and P7, where load 0 in cell 2 leaves cell 5 without room.
-- Assumes nothing.
use mathlib.Core.List.{[], ◌∷◌}
use mathlib.Core.Path.{◌≡◌, refl}
use Rattle.std.specs.Prelude.{Ok, Err, Some, None}
use Rattle.text.specs.Decimal.{digits_of, decimal}
use Rattle.speech.specs.Speech.{bytes, spoken}
use Rattle.handheld.specs.declared.ChangeError.TheVariants.{TableShort, NotPlan, NoRoom, Record}
use Rattle.site.specs.declared.Fault.TheVariants.{Load}
use Rattle.say_refusals.specs.Said.{refused_line}
use Rattle.say_refusals.specs.declared.Place.TheVariants.{Cell}
use Rattle.say_handheld.specs.Lines.{handheld_lines}
use Rattle.say_handheld.specs.Said.{change_said}

changes-said :
    change_said 5 0 (Ok tt) ∷ change_said 2 0 (Err (NoRoom 5 1)) ∷ []
    ≡ bytes "planned: cell 5 now has load 0\n" ∷ bytes "refused 5, cell 5: with this load there is no room for 1 of its fragments\n" ∷ []
unfolding handheld_lines spoken decimal digits_of
changes-said = refl

-- the refusals 4 and 26, whose letters are in crate `say_refusals`, and 2 of the edit, with the cell asked for
refusals-said :
    change_said 2 7 (Err TableShort) ∷ change_said 2 7 (Err NotPlan) ∷ change_said 6 7 (Err (Record (Load 6))) ∷ []
    ≡ refused_line 4 None ∷ refused_line 26 None ∷ refused_line 2 (Some (Cell 6)) ∷ []
refusals-said = refl
