-- When a table is the plan: the definition that a check of a finished table against the planner cites.
use Rattle.std.specs.Prelude.{Bool, true, false, ◌&&◌, List, [], ◌∷◌, ℕ, ◌*◌, eqb, take}
use Rattle.theory.specs.Net.{Net}
use Rattle.theory.specs.Greedy.{Outcome, planned, no_room, greedy}

-- whether two lists are the same, byte for byte
unfoldable pub same_bytes : List ℕ → List ℕ → Bool
same_bytes [] [] = true
same_bytes [] (c ∷ u) = false
same_bytes (b ∷ t) [] = false
same_bytes (b ∷ t) (c ∷ u) = eqb b c && same_bytes t u

-- whether a run comes to this table
abbrev pub comes_to : Outcome → List ℕ → Bool
comes_to (planned t) u = same_bytes t u
comes_to (no_room c m) u = false

-- whether the first IN bytes of a table are the greedy plan's, the forbidden marks too: not where greedy finds no room, nor where the table is shorter
unfoldable pub is_plan : Net → List ℕ → Bool
is_plan s t = comes_to (greedy s) (take (s.cells * s.width) t)
