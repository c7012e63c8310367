-- The marks of one kind that a channel of a band has, as numbers: what is read back from its text.
use Rattle.std.specs.Prelude.{ℕ, ◌-◌, ◌*◌, List, [], ◌∷◌, eqb}
use Rattle.laws.specs.Choice.{pick}
use Rattle.faults.specs.Faults.{passed}
use Rattle.site.specs.declared.Site.{Site}
use Rattle.drawing.specs.Lines.{wrong_mark}
use Rattle.drawing.specs.Places.{slot_wide, channel_high, across_of, down_of}
use Rattle.drawing.specs.Slots.{run_begins, run_past}

-- the numbers of a mark: from where across and down, how wide and how high. A path says its width a second time, on its way back
abbrev pub mark_numbers : (mark x y wide high : ℕ) → List ℕ
mark_numbers mark x y wide high = x ∷ y ∷ wide ∷ high ∷ pick (eqb mark wrong_mark) (wide ∷ []) []

module _ (s : Site) (t : List ℕ) where
  -- the mark of the run that begins at a slot
  abbrev pub run_mark : (mark i channel slot : ℕ) → List ℕ
  run_mark mark i channel slot =
      mark_numbers mark (across_of s slot) (down_of s i channel) ((run_past s t mark i channel slot - slot) * slot_wide s) (channel_high s)

  -- those of a channel, of the first n slots
  abbrev pub run_marks : (mark i channel n : ℕ) → List (List ℕ)
  run_marks mark i channel n = passed (run_begins s t mark i channel) (run_mark mark i channel) n
