-- Every fault of a table: "check SITE PLAN --all: every fault of a plan, not the first alone". 22 by position, then cell; 6 by position, first cell, second;
-- 7 by cell. A fault is written as the checker's verdict that names it (theory/specs/Verdict.antt).
use Rattle.std.specs.Prelude.{Bool, ◌&&◌, not, List, [], ◌∷◌, ◌++◌, ℕ, zero, suc, ltb}
use Rattle.laws.specs.Choice.{pick}
use Rattle.laws.specs.Sum.{count}
use Rattle.theory.specs.Net.{Net, Reserved}
use Rattle.theory.specs.Verdict.{TableVerdict, barred, clash, wrong, wrong_in}

-- a list for each number below n, one after the other
unfoldable pub in_turn : {A : Type 0} → (ℕ → List A) → ℕ → List A
in_turn g zero = []
in_turn g (suc n) = in_turn g n ++ g n

-- an item for each number below n that passes a test, in rising order
abbrev pub passed : {A : Type 0} → (ℕ → Bool) → (ℕ → A) → ℕ → List A
passed p item n = in_turn (λ k. pick (p k) (item k ∷ []) []) n

module _ (s : Net) (res : Reserved) where
  -- 22, "reservation on a blocked position": cell i's, at position k
  unfoldable pub barred_by : ℕ → ℕ → Bool
  barred_by k i = not (s.usable k) && res i k

  -- 6, "clash in a table": of the cells a and c, at position k, the lower first
  unfoldable pub clash_by : ℕ → ℕ → ℕ → Bool
  clash_by k a c = ltb a c && (res a k && (res c k && s.clash a c))

  -- "22 by position, then cell": those of one position
  abbrev pub barred_all : ℕ → List TableVerdict
  barred_all k = passed (barred_by k) (barred k) s.cells

  -- "6 by position, first cell, second": those of one position and first cell
  abbrev pub clashes_with : ℕ → ℕ → List TableVerdict
  clashes_with k a = passed (clash_by k a) (clash k a) s.cells

  -- and of one position
  abbrev pub clashes_all : ℕ → List TableVerdict
  clashes_all k = in_turn (clashes_with k) s.cells

  -- "7 by cell", with its count
  abbrev pub wrong_all : List TableVerdict
  wrong_all = passed (wrong_in s res) (λ i. wrong i (count (res i) s.width)) s.cells

  abbrev pub faults : List TableVerdict
  faults = in_turn barred_all s.width ++ (in_turn clashes_all s.width ++ wrong_all)
