-- What the turns of all cells come to: how many changes, or the cell that finds no room; and what the sets then say.
use Rattle.std.specs.Prelude.{◌≡◌, List, ℕ, ◌+◌, Result, Ok, Err}
use Rattle.theory.specs.Net.{Net}
use Rattle.theory.specs.Greedy.{reserved, Outcome, planned, no_room}
use Rattle.site.specs.Reach.{is_open, net_by}
use Rattle.mending.specs.Mend.{mend}
use Rattle.mending.specs.Changes.{change_count}
use Rattle.standing.specs.Sets.{Says}
use Rattle.standing.specs.declared.Short.{Short}

-- u is the table to be mended, as it is lent, and t what stands
module _ (s : Net) (u : List ℕ) where
  -- how many changes there are
  abbrev pub number_of : List ℕ → ℕ
  number_of t = change_count (reserved s.width t) (reserved s.width u) s.width s.cells

  -- what stands, or the cell that finds no room
  abbrev pub stood_of : Outcome → Result ℕ Short
  stood_of (planned t) = Ok (number_of t)
  stood_of (no_room c m) = Err (record { 0 = c + 1; 1 = m })

-- what stands, or the cell that finds no room, for a problem by its numbers
module _ (cells n : ℕ) (loads clash blocked u : List ℕ) where
  abbrev pub mend_by : Outcome
  mend_by = mend (net_by cells n loads clash (is_open blocked)) u

  abbrev pub stood_by : Result ℕ Short
  stood_by = stood_of (net_by cells n loads clash (is_open blocked)) u mend_by

  -- the sets say what stands and what stood, where every cell finds room
  abbrev pub SaysBy : ℕ → List ℕ → List ℕ → Type 0
  SaysBy w stands old = (t : List ℕ) → mend_by ≡ planned t → Says cells n w t u stands old
