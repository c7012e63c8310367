-- The sets that packing a table's rows leaves, and those that the cells' turns leave, whatever they held before. What they say of the table is `SaysBy`.
use Rattle.std.specs.Prelude.{List, ℕ, zero, suc, ◌+◌, ◌*◌, get_or}
use Rattle.std.proofs.lemmas.List.Edits.{sets}
use Rattle.theory.specs.Greedy.{reserved, Outcome, planned, no_room}
use Rattle.mending.specs.Keep.{stand_at}
use Rattle.sets.specs.Sets.{set_in}
use Rattle.sets.specs.Pack.{in_cell}
use Rattle.standing.specs.Sets.{free_in}
use Rattle.standing.specs.Stand.{mend_by}

-- the first i rows of n bytes as sets of w words, one after the other
unfoldable pub packed_rows : ℕ → ℕ → List ℕ → List ℕ → ℕ → List ℕ
packed_rows w n u old zero = old
packed_rows w n u old (suc i) = sets (packed_rows w n u old i) (i * w) (set_in (in_cell n u i) w)

-- the sets after the turns of the first i cells
unfoldable pub turn_sets : ℕ → ℕ → List ℕ → List ℕ → List ℕ → List ℕ → List ℕ → ℕ → List ℕ
turn_sets w n loads clash blocked u stands zero = stands
turn_sets w n loads clash blocked u stands (suc i) =
    sets (turn_sets w n loads clash blocked u stands i) (i * w)
    (set_in (stand_at (free_in w n blocked (get_or clash i 0) (turn_sets w n loads clash blocked u stands i) i) (reserved n u i) (get_or loads i 0) n) w)

-- how many cells have had their turn: "the first cell whose load can't be met" is the last one
abbrev pub turns_of : ℕ → Outcome → ℕ
turns_of cells (planned t) = cells
turns_of cells (no_room c m) = c + 1

-- what the turns leave in the sets
module _ (w cells n : ℕ) (loads clash blocked u stands : List ℕ) where
  abbrev pub turned_by : List ℕ
  turned_by = turn_sets w n loads clash blocked u stands (turns_of cells (mend_by cells n loads clash blocked u))
