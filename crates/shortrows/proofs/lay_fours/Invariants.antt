-- `shortrows::lay_fours` meets its contract: before four number q, the marks of those before it are stored. Assumes nothing.
use mathlib.Core.Path.{◌≡◌}
use Prim.Native.Nat.{◌-◌, ◌*◌, ◌≤◌}
use lib.Seq.{sets}
use Rattle.laws.specs.Part.{list_of}
use Rattle.shortrows.specs.Short.{mark_in}
use Rattle.shortrows.proofs.lay_fours.Given as goal

abbrev pub invariant-loop-q : goal.invariant-loop-q
invariant-loop-q l = (l.q ≤ l.m) × (l.row ≡ sets l.initial.row 0 (list_of (mark_in l.taken) (4 * l.q)))

abbrev pub decreases-loop-q : goal.decreases-loop-q
decreases-loop-q l = l.m - l.q
