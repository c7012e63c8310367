-- `admission::rooms_beside` meets its contract: before cell i none is over, and the array holds what the loads leave in those below i. Assumes nothing.
use Rattle.std.specs.Prelude.{◌≡◌}
use Rattle.std.proofs.lemmas.List.Edits.{sets}
use Rattle.laws.specs.Part.{list_of}
use Rattle.laws.specs.Search.{first}
use Rattle.admission.specs.Code.{left_in, past_room}
use Rattle.admission.proofs.rooms_beside.Given as goal

abbrev pub invariant-loop-i : goal.invariant-loop-i
invariant-loop-i l = (first (past_room l.loads l.clash l.room) 0 l.cells ≡ first (past_room l.loads l.clash l.room) l.i l.cells)
    × (l.rooms ≡ sets l.initial.rooms 0 (list_of (left_in l.loads l.clash l.room) l.i))
