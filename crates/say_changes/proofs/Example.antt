-- The text of changes, computed: a table for three slots of two channels where cell 3 clashes with cell 2 in the last channel, as it was and as it is
-- once mended. Assumes nothing.
use mathlib.Core.Path.{◌≡◌, refl}
use mathlib.Core.List.{List, [], ◌∷◌}
use Prim.Native.Nat.{ℕ}
use Rattle.text.specs.Decimal.{digits_of, decimal}
use Rattle.speech.specs.Speech.{bytes, spoken}
use Rattle.say_changes.specs.Lines.{change_lines}
use Rattle.say_changes.specs.Said.{changes_said, slot_said, row_said, all_said}

abbrev before : List ℕ
before = 1 ∷ 1 ∷ 1 ∷ 1 ∷ 1 ∷ 0 ∷ 7 ∷ 2 ∷ 0 ∷ 0 ∷ 0 ∷ 1 ∷ 9 ∷ 0 ∷ 1 ∷ 1 ∷ 1 ∷ 1 ∷ []

abbrev after : List ℕ
after = 1 ∷ 1 ∷ 1 ∷ 1 ∷ 1 ∷ 0 ∷ 7 ∷ 2 ∷ 0 ∷ 0 ∷ 0 ∷ 1 ∷ 1 ∷ 0 ∷ 1 ∷ 1 ∷ 1 ∷ 0 ∷ []

-- by the mender's list
list-said : changes_said 2 (3 ∷ 0 ∷ 0 ∷ 1 ∷ 3 ∷ 5 ∷ 1 ∷ 0 ∷ []) ≡ bytes "cell 3: slot 1 channel 1 added\ncell 3: slot 3 channel 2 dropped\n"
unfolding change_lines changes_said spoken decimal digits_of
list-said = refl

-- and by the two tables
tables-said : all_said before after 3 2 3 ≡ bytes "cell 3: slot 1 channel 1 added\ncell 3: slot 3 channel 2 dropped\n"
unfolding change_lines all_said row_said slot_said spoken decimal digits_of
tables-said = refl
