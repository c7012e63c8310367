-- What is said of a rule, computed letter by letter. Assumes nothing.
use mathlib.Core.List.{[], ◌∷◌}
use mathlib.Core.Path.{◌≡◌, refl}
use Prim.Native.Nat.{ℕ}
use Rattle.laws.specs.Search.{first_of}
use Rattle.text.specs.Decimal.{digits_of, decimal}
use Rattle.speech.specs.Speech.{bytes, spoken}
use Rattle.site.specs.Record.{site_of}
use Rattle.site.specs.Reach.{reaches}
use Rattle.site.specs.declared.Site.{Site}
use Rattle.say_rule.specs.Lines.{rule_lines}
use Rattle.say_rule.specs.Said.{third_of, by_third, seconds_said, firsts_said, air_said}

-- 1 reaches 2; 2 and 5 reach 4
abbrev edge : ℕ → Site
edge = site_of 5 4 2 (4 ∷ 3 ∷ 0 ∷ 3 ∷ 2 ∷ []) (2 ∷ 8 ∷ 0 ∷ 0 ∷ 8 ∷ []) []

-- the request's line
edge-said : air_said (edge 2) ≡ bytes "rule 2: two cells clash also when some third cell is reached by both\n  2 and 5 clash: both reach 4\n"
unfolding first_of rule_lines third_of by_third seconds_said firsts_said reaches spoken decimal digits_of
edge-said = refl

-- of rule 1 nothing is said
running-said : air_said (edge 1) ≡ []
unfolding firsts_said
running-said = refl

-- 1 and 3 reach 5 and 6, and 4 reaches 6 and 1: of 1 and 3 the lowest is named, and of 1 and 4, of which one reaches the other, none
abbrev several : Site
several = site_of 6 2 1 [] (48 ∷ 0 ∷ 48 ∷ 33 ∷ []) [] 2

several-said :
    air_said several
    ≡ bytes "rule 2: two cells clash also when some third cell is reached by both\n  1 and 3 clash: both reach 5\n  3 and 4 clash: both reach 6\n"
unfolding first_of rule_lines third_of by_third seconds_said firsts_said reaches spoken decimal digits_of
several-said = refl
