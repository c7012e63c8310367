-- `reachrows::few_thirds` meets its contract: before cell a, the rows of the cells below a are stored, each by rule 2, its column and the cells that reach a
-- third cell with it. Assumes nothing.
use mathlib.Core.Path.{◌≡◌}
use mathlib.Core.List.{List}
use Prim.Native.Nat.{ℕ, ◌-◌, ◌≤◌}
use lib.ListN.{length}
use lib.Seq.{sets}
use Rattle.laws.specs.Bits.{word_of}
use Rattle.laws.specs.Part.{list_of}
use Rattle.reachrows.specs.Rows.{clash_in}
use Rattle.reachrows.proofs.few_thirds.Given as goal

abbrev pub row_in : List ℕ → ℕ → ℕ → ℕ
row_in reach cells a = word_of (clash_in 2 reach a) cells

abbrev pub invariant-loop-a : goal.invariant-loop-a
invariant-loop-a l = (l.a ≤ l.cells) × (length l.rows ≡ 32) × (l.rows ≡ sets l.initial.rows 0 (list_of (row_in l.reach l.cells) l.a))

abbrev pub decreases-loop-a : goal.decreases-loop-a
decreases-loop-a l = l.cells - l.a
