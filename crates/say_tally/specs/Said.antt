-- "The last lines count: so many sites, so many plans valid, so many with a clash that a one-way reading would not see". "Status 1 if anything is refused or
-- not valid."
use Rattle.std.specs.Prelude.{ℕ, ◌+◌, Bool, List, [], ◌∷◌, ◌++◌, eqb, length}
use Prim.Native.String.{String}
use Rattle.phrases.specs.Phrases.{phrase}
use Rattle.phrases.specs.declared.Phrase.{Phrase}
use Rattle.phrases.specs.declared.Phrase.TheVariants.{Row}
use Rattle.say_tally.specs.Marks.{sites_marked, plans_marked}

unfoldable pub tally_lines : List String
tally_lines =
    "@1 site@a: @2 with a plan, @3 full, @4 not known, "
    ∷ "@1 refused\n"
    ∷ "@1 plan@a: @2 valid, @3 not valid, @4 refused\n"
    ∷ "@1 plan@a with a clash that a one-way reading would not see\n"
    ∷ []

abbrev pub sites_phrase : List ℕ → Phrase
sites_phrase tally = Row 0 (length tally) (sites_marked 0 tally) (sites_marked 1 tally) (sites_marked 2 tally)

abbrev pub refused_phrase : List ℕ → Phrase
refused_phrase tally = Row 1 (sites_marked 3 tally) 0 0 0

-- those that pass if only two-way ranges clash are not valid either
abbrev pub plans_wrong : List ℕ → ℕ
plans_wrong tally = plans_marked 2 tally + plans_marked 3 tally

abbrev pub plans_phrase : List ℕ → Phrase
plans_phrase tally =
    Row 2 (plans_marked 1 tally + plans_wrong tally + plans_marked 4 tally) (plans_marked 1 tally) (plans_wrong tally) (plans_marked 4 tally)

abbrev pub unseen_phrase : List ℕ → Phrase
unseen_phrase tally = Row 3 (plans_marked 3 tally) 0 0 0

abbrev pub totals_said : List ℕ → List ℕ
totals_said tally =
    phrase tally_lines (sites_phrase tally) ++ (phrase tally_lines (refused_phrase tally)
    ++ (phrase tally_lines (plans_phrase tally) ++ phrase tally_lines (unseen_phrase tally)))

unfoldable pub all_well : List ℕ → Bool
all_well tally = eqb (sites_marked 3 tally + plans_wrong tally + plans_marked 4 tally) 0
