-- Lines of a plan, computed letter by letter. Assumes nothing.
use Prim.Native.Nat.{ℕ}
use mathlib.Core.Path.{◌≡◌, refl}
use mathlib.Core.List.{List, [], ◌∷◌}
use Rattle.laws.specs.Bits.{word_of}
use Rattle.laws.specs.Most.{most}
use Rattle.laws.specs.Search.{first_of}
use Rattle.laws.specs.Sum.{sum, any}
use Rattle.theory.specs.Verdict.{second_at, clashes_at, first_at}
use Rattle.faults.specs.Faults.{in_turn}
use Rattle.text.specs.Decimal.{digits_of, decimal}
use Rattle.speech.specs.Speech.{bytes, spoken}
use Rattle.site.specs.Record.{site_of}
use Rattle.site.specs.Reach.{reaches, reached_by_both, clash_in}
use Rattle.site.specs.declared.Site.{Site}
use Rattle.places.specs.Lines.{place_lines}
use Rattle.places.specs.Places.{sent_phrase, place_said}
use Rattle.say_grid.specs.Lines.{grid_lines}
use Rattle.say_grid.specs.Grid.{entry_said, column_width, whole_line}

-- P1: three cells in a row, 3 slots, 2 channels; with its plan, rows 111110, 222221, 111102
abbrev p1 : Site
p1 = site_of 3 3 2 (5 ∷ 1 ∷ 4 ∷ []) (0 ∷ 5 ∷ 0 ∷ []) [] 1

abbrev p1-plan : List ℕ
p1-plan = 1 ∷ 1 ∷ 1 ∷ 1 ∷ 1 ∷ 0 ∷ 2 ∷ 2 ∷ 2 ∷ 2 ∷ 2 ∷ 1 ∷ 1 ∷ 1 ∷ 1 ∷ 1 ∷ 0 ∷ 2 ∷ []

slots : whole_line p1 p1-plan 0 0 3 ≡ bytes "slot          1    2  3\n"
unfolding word_of most first_of sum any second_at clashes_at first_at in_turn digits_of decimal spoken reaches reached_by_both clash_in place_lines sent_phrase
    place_said grid_lines entry_said column_width
slots = refl

channel-two : whole_line p1 p1-plan 2 0 3 ≡ bytes "channel 2   1+3  1+3  2\n"
unfolding word_of most first_of sum any second_at clashes_at first_at in_turn digits_of decimal spoken reaches reached_by_both clash_in place_lines sent_phrase
    place_said grid_lines entry_said column_width
channel-two = refl

-- two cells that clash, 2 slots, 1 channel, of which the second slot is blocked: both send in both
abbrev two : Site
two = site_of 2 2 1 (2 ∷ 2 ∷ []) (2 ∷ 0 ∷ []) (2 ∷ []) 1

marked : whole_line two (1 ∷ 1 ∷ 1 ∷ 1 ∷ []) 1 0 2 ≡ bytes "channel 1   1+2!  1+2!#\n"
unfolding word_of most first_of sum any second_at clashes_at first_at in_turn digits_of decimal spoken reaches reached_by_both clash_in place_lines sent_phrase
    place_said grid_lines entry_said column_width
marked = refl
