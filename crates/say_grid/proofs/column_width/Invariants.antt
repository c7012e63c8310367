-- `say_grid::column_width` meets its contract: before a line, the greatest width of the lines above it. Assumes nothing.
use Prim.Native.Nat.{ℕ, ◌≤◌}
use mathlib.Core.Path.{◌≡◌}
use mathlib.Core.List.{List}
use lib.ListN.{length}
use Rattle.laws.specs.Most.{most}
use Rattle.site.specs.declared.Site.{Site}
use Rattle.say_grid.specs.Grid.{entry_said}
use Rattle.say_grid.proofs.column_width.Given as goal

abbrev pub wide : Site → List ℕ → (slot line : ℕ) → ℕ
wide s t slot line = length (entry_said s t line slot)

abbrev pub invariant-loop-line : goal.invariant-loop-line
invariant-loop-line l = (l.widest ≡ most (wide l.site l.table l.slot) l.line) × (l.widest ≤ 156)
