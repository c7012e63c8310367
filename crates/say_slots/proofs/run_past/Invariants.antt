-- `say_slots::run_past` meets its contract: a search: what is left gives the answer. Assumes nothing.
use Prim.Native.Nat.{ℕ}
use mathlib.Core.Path.{◌≡◌}
use mathlib.Core.Bool.{Bool, not}
use mathlib.Core.List.{List}
use Rattle.laws.specs.Search.{first}
use Rattle.site.specs.declared.Site.{Site}
use Rattle.drawing.specs.Slots.{marked_in, run_past}
use Rattle.say_slots.proofs.run_past.Given as goal

abbrev pub test : Site → List ℕ → (mark i channel j : ℕ) → Bool
test s t mark i channel j = not (marked_in s t mark i channel j)

abbrev pub invariant-loop-j : goal.invariant-loop-j
invariant-loop-j l = run_past l.site l.table l.mark l.i l.channel l.slot ≡ first (test l.site l.table l.mark l.i l.channel) l.j l.slots
