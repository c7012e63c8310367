-- `say_grid::fitting` meets its contract: a search: what is left gives the answer, and the width so far is that of the piece. Assumes nothing.
use Prim.Native.Nat.{ℕ, ◌+◌, ◌*◌, ◌≤◌}
use mathlib.Core.Path.{◌≡◌}
use mathlib.Core.Bool.{Bool}
use mathlib.Core.List.{List}
use lib.Dec.{ltb}
use Rattle.laws.specs.Search.{first}
use Rattle.site.specs.declared.Site.{Site}
use Rattle.say_grid.specs.Grid.{piece_width, fitting}
use Rattle.say_grid.proofs.fitting.Given as goal

abbrev pub over : Site → List ℕ → (width from m : ℕ) → Bool
over s t width from m = ltb width (piece_width s t from (m + 1))

abbrev pub invariant-loop-many : goal.invariant-loop-many
invariant-loop-many l = (l.used ≡ piece_width l.site l.table l.from l.many)
    × (l.used ≤ 12 + 158 * l.many) × (fitting l.site l.table l.width l.from ≡ first (over l.site l.table l.width l.from) l.many l.left)
