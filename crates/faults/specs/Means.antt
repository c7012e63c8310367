-- What the list of faults has to be, said without the tests that make it: which faults a table has, how often one is in a list, and which is at its front.
use Rattle.std.specs.Prelude.{◌≡◌, Bool, true, false, ◌&&◌, List, [], ◌∷◌, ℕ, ◌+◌, ◌<◌, eqb}
use Rattle.laws.specs.Sum.{bit, count}
use Rattle.theory.specs.Net.{Net, Reserved}
use Rattle.theory.specs.Named.{Barred, Clashes}
use Rattle.theory.specs.Verdict.{TableVerdict, valid, barred, clash, wrong}

-- "each cell holds 1 exactly as often as its load": cell i does not; it is reserved n times
pub record Miscounted (s : Net) (res : Reserved) (i n : ℕ) : Type 0 where
  pub inside : i < s.cells
  pub counted : n ≡ count (res i) s.width
  pub differs : count (res i) s.width ≡ s.load i → ⊥

-- which faults a table has; `valid` is none
abbrev pub FaultOf : Net → Reserved → TableVerdict → Type 0
FaultOf s res valid = ⊥
FaultOf s res (barred k i) = Barred s res k i
FaultOf s res (clash k a c) = Clashes s res k a c
FaultOf s res (wrong i n) = Miscounted s res i n

abbrev pub same : TableVerdict → TableVerdict → Bool
same valid valid = true
same valid (barred l j) = false
same valid (clash l x z) = false
same valid (wrong j m) = false
same (barred k i) valid = false
same (barred k i) (barred l j) = eqb k l && eqb i j
same (barred k i) (clash l x z) = false
same (barred k i) (wrong j m) = false
same (clash k a c) valid = false
same (clash k a c) (barred l j) = false
same (clash k a c) (clash l x z) = eqb k l && (eqb a x && eqb c z)
same (clash k a c) (wrong j m) = false
same (wrong i n) valid = false
same (wrong i n) (barred l j) = false
same (wrong i n) (clash l x z) = false
same (wrong i n) (wrong j m) = eqb i j && eqb n m

-- how often a fault is in a list
abbrev pub times : TableVerdict → List TableVerdict → ℕ
times v [] = 0
times v (w ∷ l) = bit (same v w) + times v l

-- the fault at the front of a list; v where the list is empty
abbrev pub front_or : TableVerdict → List TableVerdict → TableVerdict
front_or v [] = v
front_or v (w ∷ l) = w
