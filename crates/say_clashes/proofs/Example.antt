-- The clashes of a site, computed letter by letter. Assumes nothing.
use mathlib.Core.List.{[], ◌∷◌}
use mathlib.Core.Path.{◌≡◌, refl}
use Prim.Native.Nat.{ℕ}
use Rattle.laws.specs.Search.{first_of}
use Rattle.text.specs.Decimal.{digits_of, decimal}
use Rattle.speech.specs.Speech.{bytes, spoken}
use Rattle.site.specs.Record.{site_of}
use Rattle.site.specs.Reach.{reaches}
use Rattle.site.specs.declared.Site.{Site}
use Rattle.say_rule.specs.Said.{third_of}
use Rattle.say_clashes.specs.Lines.{clash_lines}
use Rattle.say_clashes.specs.Said.{third_under, clash_phrase, pairs_said, all_clashes_said}

-- 1 reaches 2 and 4, 2 reaches 1, 3 reaches 4, 4 reaches 2
abbrev four : ℕ → Site
four = site_of 4 2 1 [] (10 ∷ 1 ∷ 8 ∷ 2 ∷ []) []

by-reach : all_clashes_said (four 1) 4
    ≡ bytes "1 and 2 clash: each reaches the other\n1 and 4 clash: 1 reaches 4\n2 and 4 clash: 4 reaches 2\n3 and 4 clash: 3 reaches 4\n"
unfolding first_of clash_lines third_of third_under clash_phrase pairs_said all_clashes_said reaches spoken decimal digits_of
by-reach = refl

-- under rule 2, 1 and 3 both reach 4, and 1 and 4 both reach 2, besides that 1 reaches 4
by-third : pairs_said 2 (four 2).reach 0 4
    ≡ bytes "1 and 2 clash: each reaches the other\n1 and 3 clash: both reach 4\n1 and 4 clash: 1 reaches 4, and both reach 2\n"
unfolding first_of clash_lines third_of third_under clash_phrase pairs_said reaches spoken decimal digits_of
by-third = refl
