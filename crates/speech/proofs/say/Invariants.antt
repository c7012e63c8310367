-- `speech::say` meets its contract. The invariant: what is left of the text, spoken and stored from here on, gives the whole.
-- It has room, since a sentence is at most ten times as long as its text. Assumes nothing.
use Prim.Native.Nat.{◌-◌, ◌≤◌}
use lib.ListN.{length, drop}
use Rattle.text.proofs.Writing.{Writing}
use Rattle.speech.specs.Speech.{mark_said, spoken}
use Rattle.speech.proofs.say.Given as goal

abbrev pub invariant-loop-i : goal.invariant-loop-i
invariant-loop-i l = (l.i ≤ length l.text) × Writing l.initial.out l.at (spoken (mark_said l.a l.b l.c l.d) l.text) l.out l.next
    (spoken (mark_said l.a l.b l.c l.d) (drop l.i l.text))

abbrev pub decreases-loop-i : goal.decreases-loop-i
decreases-loop-i l = length l.text - l.i
