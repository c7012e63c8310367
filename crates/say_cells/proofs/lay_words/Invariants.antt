-- `say_cells::lay_words` meets its contract: before a slot, the words of the slots below it are stored. Assumes nothing.
use mathlib.Core.Path.{◌≡◌}
use Prim.Native.Nat.{◌≤◌}
use lib.ListN.{length}
use lib.Seq.{sets}
use Rattle.laws.specs.Part.{list_of}
use Rattle.say_cells.specs.Cells.{slot_channels}
use Rattle.say_cells.proofs.lay_words.Given as goal

abbrev pub invariant-loop-slot : goal.invariant-loop-slot
invariant-loop-slot l = (l.slot ≤ l.slot-end) × (l.slot-end ≡ length l.initial.words) × (length l.words ≡ length l.initial.words)
    × (l.words ≡ sets l.initial.words 0 (list_of (slot_channels l.site l.table l.kind l.i) l.slot))
