-- `blockbits::set_of` meets its contract: before word j, the words below it are stored, and those past the body are 0. Assumes nothing.
use Prim.Native.Nat.{◌-◌, ◌≤◌}
use mathlib.Core.Path.{◌≡◌}
use lib.Seq.{sets}
use Rattle.laws.specs.Part.{list_of}
use Rattle.positions.specs.Blocked.{empty_set, word_in}
use Rattle.blockbits.specs.Blocks.{bit_stated}
use Rattle.blockbits.proofs.set_of.Given as goal

abbrev pub invariant-loop-j : goal.invariant-loop-j
invariant-loop-j l = (l.j ≤ l.words) × (l.set ≡ sets empty_set 0 (list_of (word_in (bit_stated l.body)) l.j))

abbrev pub decreases-loop-j : goal.decreases-loop-j
decreases-loop-j l = l.words - l.j
