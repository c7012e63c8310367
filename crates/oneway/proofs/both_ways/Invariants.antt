-- `oneway::both_ways-law` meets its contract: before row a, the rows below a are stored, each with the bits that its turned row has too. Assumes nothing.
use mathlib.Core.Path.{◌≡◌}
use mathlib.Core.Bool.{◌&&◌}
use mathlib.Core.List.{List}
use Prim.Native.Nat.{ℕ, ◌-◌, ◌≤◌}
use lib.ListN.{length}
use lib.Seq.{sets}
use Rattle.laws.specs.Bits.{bit_in, word_of}
use Rattle.laws.specs.Part.{list_of}
use Rattle.oneway.proofs.both_ways.Given as goal

abbrev pub row_in : List ℕ → ℕ → ℕ
row_in reach a = word_of (λ b. bit_in reach a b && bit_in reach b a) 32

abbrev pub invariant-loop-a : goal.invariant-loop-a
invariant-loop-a l = (l.a ≤ 32) × (length l.rows ≡ 32) × (l.rows ≡ sets l.initial.rows 0 (list_of (row_in l.reach) l.a))

abbrev pub decreases-loop-a : goal.decreases-loop-a
decreases-loop-a l = 32 - l.a
