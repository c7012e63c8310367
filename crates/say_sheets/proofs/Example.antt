-- What is said of bad lines, of changes and of a site, computed letter by letter. Assumes nothing.
use mathlib.Core.List.{[], ◌∷◌}
use mathlib.Core.Path.{◌≡◌, refl}
use Prim.Native.Nat.{ℕ}
use Rattle.std.specs.Prelude.{Err}
use Rattle.laws.specs.Sum.{sum, any}
use Rattle.text.specs.Decimal.{digits_of, decimal}
use Rattle.speech.specs.Speech.{bytes, spoken}
use Rattle.site.specs.Record.{site_of}
use Rattle.site.specs.Reach.{reaches, reached_by_both, clash_in}
use Rattle.site.specs.declared.Site.{Site}
use Rattle.clashcount.specs.Count.{clash_count}
use Rattle.tidying.specs.declared.TidyError.TheVariants.{BadLine}
use Rattle.linefaults.specs.declared.LineFault.TheVariants.{Semicolon, FeedAlone, NoMark}
use Rattle.say_sheets.specs.Lines.{line_fault_lines, tidy_lines, made_lines}
use Rattle.say_sheets.specs.Said.{line_fault_said, named_said, tidy_said, made_said}

faults-said :
    line_fault_said 2 (Semicolon 12)
    ∷ line_fault_said 1 FeedAlone
    ∷ line_fault_said 3 (NoMark 5)
    ∷ []
    ≡ bytes "refused 17, line 2: at character 12 stands a semicolon, and a comma belongs there\n"
    ∷ bytes "refused 17, line 1: the line ends in LF alone, and CR LF belongs there\n"
    ∷ bytes "refused 17, line 3: column 5: 0 or 1 belongs there\n"
    ∷ []
unfolding line_fault_lines spoken decimal digits_of
faults-said = refl

changes-said :
    named_said 4 (record { times = 6; line = 1 })
    ∷ named_said 5 (record { times = 1; line = 2 })
    ∷ named_said 7 (record { times = 0; line = 0 })
    ∷ tidy_said [] (Err (BadLine 3))
    ∷ []
    ≡ bytes "from line 1 on, 6 times: a quote dropped\n"
    ∷ bytes "line 2: a blank dropped\n"
    ∷ []
    ∷ bytes "refused 17, line 3: this line can't be tidied\n"
    ∷ []
unfolding tidy_lines spoken decimal digits_of
changes-said = refl

-- 1 reaches 2, and 2 and 5 reach 4: under rule 2 cells 2 and 5 clash too
abbrev edge : ℕ → Site
edge = site_of 5 4 1 [] (2 ∷ 8 ∷ 0 ∷ 0 ∷ 8 ∷ []) []

sites-said :
    made_said (edge 1) ∷ made_said (edge 2) ∷ made_said (site_of 2 1 2 [] (2 ∷ 1 ∷ []) [] 1) ∷ []
    ≡ bytes "made: 5 cells, 4 slots, 1 channel, 3 clashes\n"
    ∷ bytes "made: 5 cells, 4 slots, 1 channel, 4 clashes\n"
    ∷ bytes "made: 2 cells, 1 slot, 2 channels, 1 clash\n"
    ∷ []
unfolding made_lines spoken decimal digits_of clash_count sum any reaches reached_by_both clash_in
sites-said = refl
