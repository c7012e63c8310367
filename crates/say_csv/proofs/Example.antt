-- Parts of the sheet's lines, computed letter by letter; the first line has no values. Assumes nothing.
use mathlib.Core.Path.{◌≡◌, refl}
use mathlib.Core.Bool.{true, false}
use mathlib.Core.List.{[], ◌∷◌}
use Rattle.std.specs.Prelude.{Some, None, Ok, Err}
use Rattle.text.specs.Decimal.{digits_of, decimal}
use Rattle.speech.specs.Speech.{bytes, spoken}
use Rattle.records.specs.Reasons.{refusal}
use Rattle.checker.specs.declared.CheckError.TheVariants as check
use Rattle.mender.specs.declared.MendError.TheVariants as mend
use Rattle.finder.specs.declared.Way.TheVariants as way
use Rattle.finder.specs.declared.FindError.TheVariants as find
use Rattle.phrases.specs.Phrases.{phrase}
use Rattle.say_csv.specs.Lines.{csv_lines}
use Rattle.say_csv.specs.Fields.{refused_line_fields, unread_fields, found_fields, plan_field}
use Rattle.say_csv.specs.declared.PlanTold.TheVariants as plan

refused-said :
    refused_line_fields (Err (refusal 9 10)) ∷ unread_fields ∷ []
    ≡ bytes ",9,,,,,,,,,,,,,,\r\n" ∷ bytes ",unread,,,,,,,,,,,,,,\r\n" ∷ []
unfolding csv_lines spoken decimal digits_of
refused-said = refl

found-said :
    phrase csv_lines (found_fields (Ok way.Greedy)) ∷ phrase csv_lines (found_fields (Ok way.Renumbered))
    ∷ phrase csv_lines (found_fields (Ok (way.Searched 34))) ∷ phrase csv_lines (found_fields (Err (find.Full 3)))
    ∷ phrase csv_lines (found_fields (Err find.FullInClass)) ∷ phrase csv_lines (found_fields (Err (find.FullSearched 118)))
    ∷ phrase csv_lines (found_fields (Err (find.NotKnown 1))) ∷ []
    ≡ bytes "planned,," ∷ bytes "renumbered,," ∷ bytes "searched,34," ∷ bytes "full,," ∷ bytes "full,," ∷ bytes "full,118," ∷ bytes "not known,1," ∷ []
unfolding csv_lines spoken decimal digits_of
found-said = refl

plan-said :
    plan_field None ∷ plan_field (Some plan.Unread) ∷ plan_field (Some plan.OtherSize) ∷ plan_field (Some (plan.Refused (Err (refusal 9 10))))
    ∷ plan_field (Some (plan.Checked (Ok tt) (Ok 0) false)) ∷ plan_field (Some (plan.Checked (Err (check.Clash 4 1 2)) (Ok 5) true))
    ∷ plan_field (Some (plan.Checked (Err (check.Count 1 2)) (Err (mend.NoRoom 2 1)) false))
    ∷ plan_field (Some (plan.Checked (Err (check.Blocked 1 2)) (Ok 12) false)) ∷ []
    ≡ bytes ",,,\r\n" ∷ bytes ",unread,,\r\n" ∷ bytes ",size,,\r\n" ∷ bytes ",9,,\r\n"
    ∷ bytes ",0,0,0\r\n" ∷ bytes ",6,5,1\r\n" ∷ bytes ",7,,0\r\n" ∷ bytes ",22,12,0\r\n" ∷ []
unfolding csv_lines spoken decimal digits_of
plan-said = refl
