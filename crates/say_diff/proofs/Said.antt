-- What is said of two tables is true: the number is that of the lines, each of which is one change of the list that the mender would write; and of two tables
-- that agree on every reservation it is "no change". Assumes nothing.
--     diff-lines       the lines are those of the list of changes, which has four numbers for each of the number that is said
--     diff-computed    the text of a small example, letter by letter
use Prim.Native.Nat.{ℕ, ◌*◌}
use mathlib.Core.List.{List, [], ◌∷◌}
use mathlib.Core.Path.{◌≡◌, refl}
use lib.ListN.{length}
use Rattle.laws.specs.Sum.{sum}
use Rattle.theory.specs.Greedy.{reserved}
use Rattle.mending.specs.Changes.{changes}
use Rattle.mending.proofs.Changes.{changes-length}
use Rattle.text.specs.Decimal.{digits_of, decimal}
use Rattle.speech.specs.Speech.{bytes, spoken}
use Rattle.site.specs.Record.{positions, site_of}
use Rattle.site.specs.declared.Site.{Site}
use Rattle.phrases.specs.Phrases.{phrase}
use Rattle.say_changes.specs.Said.{changes_said, all_said}
use Rattle.say_changes.proofs.Said.{said_all}
use Rattle.say_diff.specs.Lines.{diff_lines}
use Rattle.say_diff.specs.Said.{diff_count, changes_phrase}

module _ (s : Site) (old new : List ℕ) where
  -- the list of changes from one table to the other
  abbrev pub list_of_changes : List ℕ
  list_of_changes = changes (reserved (positions s) new) (reserved (positions s) old) (positions s) s.cells

  pub diff-lines : (all_said old new s.slots s.channels s.cells ≡ changes_said s.channels list_of_changes)
      × (length list_of_changes ≡ 4 * diff_count s old new)
  diff-lines = (
    said_all old new s.slots s.channels s.cells,
    changes-length (reserved (positions s) new) (reserved (positions s) old) (positions s) s.cells,
  )

-- one cell, two slots of two channels
abbrev small : Site
small = site_of 1 2 2 [] [] [] 1

diff-computed : phrase diff_lines (changes_phrase (diff_count small (1 ∷ 0 ∷ 2 ∷ 1 ∷ []) (0 ∷ 1 ∷ 1 ∷ 3 ∷ []))) ≡ bytes "4 changes\n"
unfolding diff_lines sum spoken decimal digits_of
diff-computed = refl

one-computed : phrase diff_lines (changes_phrase (diff_count small (1 ∷ 0 ∷ 2 ∷ 1 ∷ []) (1 ∷ 1 ∷ 0 ∷ 1 ∷ []))) ≡ bytes "1 change\n"
unfolding diff_lines sum spoken decimal digits_of
one-computed = refl

none-computed : phrase diff_lines (changes_phrase (diff_count small (1 ∷ 0 ∷ 2 ∷ 1 ∷ []) (1 ∷ 2 ∷ 0 ∷ 1 ∷ []))) ≡ bytes "no change\n"
unfolding diff_lines sum spoken decimal digits_of
none-computed = refl
