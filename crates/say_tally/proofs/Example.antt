-- The last lines of an audit, computed letter by letter. Assumes nothing.
use mathlib.Core.Path.{◌≡◌, refl}
use mathlib.Core.Bool.{true, false}
use mathlib.Core.List.{[], ◌∷◌, ◌++◌}
use Rattle.laws.specs.Sum.{sum}
use Rattle.text.specs.Decimal.{digits_of, decimal}
use Rattle.speech.specs.Speech.{bytes, spoken}
use Rattle.say_tally.specs.Marks.{marks_with}
use Rattle.say_tally.specs.Said.{tally_lines, totals_said, all_well}

-- two sites with a plan, one of them with a plan that is valid and the other with one that a one-way reading would pass; one that is full, one that is not
-- known, and one that is refused
totals-said :
    totals_said (4 ∷ 12 ∷ 1 ∷ 2 ∷ 3 ∷ [])
    ≡ bytes "5 sites: 2 with a plan, 1 full, 1 not known, 1 refused\n" ++ (bytes "2 plans: 1 valid, 1 not valid, 0 refused\n"
    ++ bytes "1 plan with a clash that a one-way reading would not see\n")
unfolding tally_lines spoken decimal digits_of marks_with sum
totals-said = refl

-- a site that is full, or not known, is no fault of the files
well-said :
    all_well (4 ∷ 1 ∷ 2 ∷ []) ∷ all_well (3 ∷ []) ∷ all_well (8 ∷ []) ∷ all_well (12 ∷ []) ∷ all_well (16 ∷ []) ∷ []
    ≡ true ∷ false ∷ false ∷ false ∷ false ∷ []
unfolding marks_with sum all_well
well-said = refl
