-- `wordforms::add_eight` meets its contract: before piece q, the words of the pieces below q are joined. Assumes nothing.
use mathlib.Core.Path.{◌≡◌}
use Prim.Native.Nat.{◌-◌, ◌*◌, ◌≤◌}
use lib.ListN.{length}
use lib.Seq.{sets}
use Rattle.laws.specs.Part.{list_of}
use Rattle.wordforms.specs.Eights.{eight_joined}
use Rattle.wordforms.proofs.add_eight.Given as goal

abbrev pub invariant-loop-q : goal.invariant-loop-q
invariant-loop-q l = (l.q ≤ l.whole) × (length l.words ≡ length l.initial.words) ×
    (l.words ≡ sets l.initial.words 0 (list_of (eight_joined l.n l.table l.i l.initial.words) (64 * l.q)))

abbrev pub decreases-loop-q : goal.decreases-loop-q
decreases-loop-q l = l.whole - l.q
