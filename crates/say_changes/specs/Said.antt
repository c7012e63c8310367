-- The text of `duggfrask mend`: a sentence for each change. Twice: of the mender's list of changes, and of two tables, a slot of a cell at a time.
use Rattle.std.specs.Prelude.{ℕ, zero, suc, ◌+◌, ◌*◌, ◌/◌, ◌%◌, Bool, List, [], ◌∷◌, ◌++◌, eqb, get_or}
use Rattle.laws.specs.Choice.{pick}
use Rattle.theory.specs.Greedy.{sends}
use Rattle.mending.specs.Changes.{differ}
use Rattle.phrases.specs.Phrases.{phrase}
use Rattle.phrases.specs.declared.Phrase.{Phrase}
use Rattle.phrases.specs.declared.Phrase.TheVariants.{Silent, Row}
use Rattle.say_changes.specs.Lines.{change_lines, added_row, dropped_row}

-- ---- the text of a list of changes, where a slot has F channels

-- position p is channel p % F of slot p / F, both counted from 0; in the text they count from 1
abbrev pub change_phrase : (F cell p is : ℕ) → Phrase
change_phrase F cell p is = Row (pick (eqb is 1) added_row dropped_row) cell (p / F + 1) (p % F + 1) 0

-- four numbers a change, as the mender lists them: cell, position, was, is
unfoldable pub changes_said : (F : ℕ) → List ℕ → List ℕ
changes_said F [] = []
changes_said F (cell ∷ []) = []
changes_said F (cell ∷ p ∷ []) = []
changes_said F (cell ∷ p ∷ was ∷ []) = []
changes_said F (cell ∷ p ∷ was ∷ is ∷ l) = phrase change_lines (change_phrase F cell p is) ++ changes_said F l

-- ---- the same text of two tables, as they are written

-- one channel, by whether it is reserved and was
abbrev pub channel_phrase : (is was : Bool) (cell slot channel : ℕ) → Phrase
channel_phrase is was cell slot channel = pick (differ is was) (Row (pick is added_row dropped_row) cell slot channel 0) Silent

module _ (old new : List ℕ) where
  -- the channel whose byte stands at x
  abbrev pub phrase_at : (x cell slot channel : ℕ) → Phrase
  phrase_at x cell slot channel = channel_phrase (sends (get_or new x 0)) (sends (get_or old x 0)) cell slot channel

  -- the text of the first f channels of a slot, whose bytes begin at `from`
  unfoldable pub slot_said : (from cell slot : ℕ) → ℕ → List ℕ
  slot_said from cell slot zero = []
  slot_said from cell slot (suc f) = slot_said from cell slot f ++ phrase change_lines (phrase_at (from + f) cell slot (f + 1))

  -- those of the first t slots of a row of slots of F channels, whose bytes begin at `from`
  unfoldable pub row_said : (F from cell : ℕ) → ℕ → List ℕ
  row_said F from cell zero = []
  row_said F from cell (suc t) = row_said F from cell t ++ slot_said (from + t * F) cell (t + 1) F

  -- those of the first i cells, T slots each
  unfoldable pub all_said : (T F : ℕ) → ℕ → List ℕ
  all_said T F zero = []
  all_said T F (suc i) = all_said T F i ++ row_said F (i * (T * F)) (i + 1) T
