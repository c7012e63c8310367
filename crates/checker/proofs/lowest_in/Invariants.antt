-- `checker::lowest_in` meets its contract: a search: what is left gives the answer. Assumes nothing.
use Rattle.std.specs.Prelude.{◌≡◌, ◌&&◌, Bool, List, ℕ}
use Rattle.laws.specs.Bits.{bit_at}
use Rattle.laws.specs.Search.{first}
use Rattle.checker.specs.Marks.{mark_set}
use Rattle.checker.proofs.lowest_in.Given as goal

abbrev test : ℕ → List ℕ → ℕ → Bool
test word marks k = bit_at word k && mark_set marks k

abbrev pub invariant-loop-k : goal.invariant-loop-k
invariant-loop-k l = first (test l.word l.marks) 0 l.m ≡ first (test l.word l.marks) l.k l.m
