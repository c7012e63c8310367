-- `reachrows::others` meets its contract: before row a, the rows below a are stored, each without its own cell. Assumes nothing.
use mathlib.Core.Path.{◌≡◌}
use Prim.Native.Nat.{◌-◌, ◌≤◌}
use lib.ListN.{length, get_or}
use lib.Seq.{sets}
use Rattle.laws.specs.Bits.{clear_bit}
use Rattle.laws.specs.Part.{list_of}
use Rattle.reachrows.proofs.others.Given as goal

abbrev pub invariant-loop-a : goal.invariant-loop-a
invariant-loop-a l = (l.a ≤ 32) × (length l.rows ≡ 32) × (l.rows ≡ sets l.initial.rows 0 (list_of (λ k. clear_bit (get_or l.reach k 0) k) l.a))

abbrev pub decreases-loop-a : goal.decreases-loop-a
decreases-loop-a l = 32 - l.a
