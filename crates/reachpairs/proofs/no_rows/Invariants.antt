-- `reachpairs::no_rows` meets its contract: before row a, the rows below it are 0. Assumes nothing.
use Prim.Native.Nat.{◌-◌, ◌≤◌}
use mathlib.Core.Path.{◌≡◌}
use lib.Seq.{sets}
use Rattle.laws.specs.Part.{list_of}
use Rattle.reachpairs.proofs.no_rows.Given as goal

abbrev pub invariant-loop-a : goal.invariant-loop-a
invariant-loop-a l = (l.a ≤ 32) × (l.reach ≡ sets l.initial.reach 0 (list_of (λ k. 0) l.a))

abbrev pub decreases-loop-a : goal.decreases-loop-a
decreases-loop-a l = 32 - l.a
