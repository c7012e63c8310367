-- `chainwords::first_break` meets its contract: the invariant says that the search that is left gives the answer. Assumes nothing.
use Prim.Native.Nat.{ℕ}
use mathlib.Core.Bool.{Bool}
use mathlib.Core.List.{List}
use mathlib.Core.Path.{◌≡◌}
use lib.Dec.{ltb}
use Rattle.laws.specs.Bits.{bit_at, bit_in}
use Rattle.laws.specs.Search.{first}
use Rattle.theory.specs.Verdict.{break_of, first_break}
use Rattle.chainwords.specs.Chain.{chain_in}
use Rattle.chainwords.proofs.first_break.Given as goal

abbrev pub test : List ℕ → ℕ → ℕ → ℕ → Bool
test rows who cells a = ltb (break_of (chain_in cells (bit_in rows)) (bit_at who) a) cells

abbrev pub invariant-loop-a : goal.invariant-loop-a
invariant-loop-a l = first_break (chain_in l.cells (bit_in l.clash)) (bit_at l.who) ≡ first (test l.clash l.who l.cells) l.a l.cells
