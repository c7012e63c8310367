-- What the values beside a number name, as document 01's last column says. Each crate proves it of its own answers; here it is said of the numbers.
-- Assumes nothing.
use mathlib.Core.Path.{◌≡◌}
use mathlib.Core.List.{List, [], ◌∷◌}
use Prim.Native.Nat.{ℕ, ◌+◌}
use Rattle.theory.specs.Greedy.{reserved, row}
use Rattle.theory.specs.Named.{FirstOver, FirstBreaks, FirstSplits, FirstBarred, FirstClash, FirstWrong, Fails}
use Rattle.site.specs.Record.{positions}
use Rattle.site.specs.Reach.{net_of}
use Rattle.site.specs.declared.Site.{Site}
use Rattle.planner.specs.Plan.{plan_answer}
use Rattle.planner.specs.Given.{plan_given}
use Rattle.planner.proofs.Meaning.{short-means}
use Rattle.judges.specs.Judges.{counted, load_answer, chain_answer, class_answer}
use Rattle.judges.specs.Given.{load_given, chain_given, class_given}
use Rattle.judges.proofs.Meaning.{over-means, broken-means, outside-means}
use Rattle.checker.specs.Check.{check_answer}
use Rattle.checker.specs.Given.{check_given}
use Rattle.checker.proofs.Meaning.{blocked-means, clash-means, count-means}
use Rattle.demanded.specs.Numbers.{done_with, refused}
use Rattle.demanded.proofs.Numbers.{no-room-number, over-number, broken-number, outside-number, blocked-number, clash-number, count-number}

-- "If not, it names the lowest cell that is over and by how much."
pub over-names : (s : Site) (cell m : ℕ) → load_given (load_answer s) ≡ done_with (cell ∷ m ∷ []) → (i : ℕ) × (cell ≡ i + 1) × FirstOver (net_of s)
    (counted s) i m
over-names s cell m e = (over-means s cell m (over-number s cell m e)).1

-- "If not chained, the judge names the first triple a, b, c in rising order of a, then c, then b."
pub triple-names : (s : Site) (a b c : ℕ) → chain_given (chain_answer s) ≡ done_with (a ∷ b ∷ c ∷ [])
    → (x y z : ℕ) × (a ≡ x + 1) × (b ≡ y + 1) × (c ≡ z + 1) × FirstBreaks (net_of s) (counted s) x y z
triple-names s a b c e = (broken-means s a b c (broken-number s a b c e)).1

-- the judge of the class names the first cell i and its first two lower clashing cells a and b that do not clash: in rising order of i, then a, then b
pub split-names : (s : Site) (a b i : ℕ) → class_given (class_answer s) ≡ done_with (a ∷ b ∷ i ∷ [])
    → (x y z : ℕ) × (a ≡ x + 1) × (b ≡ y + 1) × (i ≡ z + 1) × FirstSplits (net_of s) (counted s) x y z
split-names s a b i e = (outside-means s a b i (outside-number s a b i e)).1

-- 5, "planner finds no room": "cell, fragments short"
pub five-names : (s : Site) (t : List ℕ) (cell short : ℕ) → plan_given (plan_answer s t) ≡ refused 5 (cell ∷ short ∷ [])
    → (k : ℕ) × (cell ≡ k + 1) × Fails (net_of s) (row (net_of s)) s.cells k short
five-names s t cell short e = short-means s t cell short (no-room-number s t cell short e)

-- W8, 22, "reservation on a blocked position": "lowest position, then cell"
pub twenty-two-names : (s : Site) (t : List ℕ) (p cell : ℕ) → check_given (check_answer s t) ≡ refused 22 (p ∷ cell ∷ [])
    → (i : ℕ) × (cell ≡ i + 1) × FirstBarred (net_of s) (reserved (positions s) t) p i
twenty-two-names s t p cell e = blocked-means s t p cell (blocked-number s t p cell e)

-- 6, "clash in a table": "lowest position; there the pair with the lowest first cell, then second"
pub six-names : (s : Site) (t : List ℕ) (p a c : ℕ) → check_given (check_answer s t) ≡ refused 6 (p ∷ a ∷ c ∷ [])
    → (x z : ℕ) × (a ≡ x + 1) × (c ≡ z + 1) × FirstClash (net_of s) (reserved (positions s) t) p x z
six-names s t p a c e = clash-means s t p a c (clash-number s t p a c e)

-- 7, "wrong number of reservations": "lowest cell, its count"
pub seven-names : (s : Site) (t : List ℕ) (cell n : ℕ) → check_given (check_answer s t) ≡ refused 7 (cell ∷ n ∷ [])
    → (i : ℕ) × (cell ≡ i + 1) × FirstWrong (net_of s) (reserved (positions s) t) i n
seven-names s t cell n e = count-means s t cell n (count-number s t cell n e)
