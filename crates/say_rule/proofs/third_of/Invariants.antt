-- `say_rule::third_of` meets its contract: a search, whose invariant says that the search that is left gives the answer. Assumes nothing.
use Prim.Native.Nat.{ℕ}
use mathlib.Core.Bool.{Bool, not, ◌&&◌}
use mathlib.Core.Path.{◌≡◌}
use lib.Dec.{eqb}
use Rattle.laws.specs.Bits.{bit_at}
use Rattle.laws.specs.Search.{first as lowest}
use Rattle.say_rule.proofs.third_of.Given as goal

abbrev pub test : ℕ → ℕ → ℕ → ℕ → ℕ → Bool
test x y a b c = not (eqb c a) && (not (eqb c b) && (bit_at x c && bit_at y c))

abbrev pub invariant-loop-c : goal.invariant-loop-c
invariant-loop-c l = lowest (test l.first l.second l.a l.b) 0 32 ≡ lowest (test l.first l.second l.a l.b) l.c 32
