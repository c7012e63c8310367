-- What is left of the marks and of the columns, one at a time, and the parts of the lines. Assumes nothing.
use Prim.Native.Nat.{ℕ, suc, ◌+◌, ◌-◌, ◌≤◌, ◌<◌}
use mathlib.Core.Path.{◌≡◌, refl, ap}
use mathlib.Core.List.{List, [], ◌∷◌, ◌++◌, append_assoc}
use native.Mathlib.Omega.{arith}
use native.Mathlib.Numerals.{add-one}
use lib.ListN.{set}
use lib.Seq.{sets}
use Rattle.text.specs.Decimal.{decimal}
use Rattle.lines.specs.Format.{crlf, column, columns, cell_load, header, marks, label, cell_line}

pub marks-next : (f : ℕ → ℕ) (b n : ℕ) → b < n → marks f b (n - b) ≡ (44 ∷ (48 + f b) ∷ []) ++ marks f (b + 1) (n - (b + 1))
unfolding marks
marks-next f b n h = let e : n - b ≡ suc (n - (b + 1)) = omega arith in rw (e, add-one b)

pub marks-none : (f : ℕ → ℕ) (b n : ℕ) → n ≤ b → marks f b (n - b) ≡ []
unfolding marks
marks-none f b n h = let e : n - b ≡ 0 = omega arith in rw e

pub columns-next : (k n : ℕ) → k < n → columns k (n - k) ≡ column (k + 1) ++ columns (k + 1) (n - (k + 1))
unfolding columns
columns-next k n h = let e : n - k ≡ suc (n - (k + 1)) = omega arith in rw (e, add-one k)

pub columns-none : (k n : ℕ) → n ≤ k → columns k (n - k) ≡ []
unfolding columns
columns-none k n h = let e : n - k ≡ 0 = omega arith in rw e

pub whole : {A : Type 0} (f : ℕ → A) (n : ℕ) → f n ≡ f (n - 0)
whole f n = let e : n ≡ n - 0 = omega arith in ap f e

-- two stores, one after the other
pub two : (l : List ℕ) (p x y : ℕ) → set (set l p x) (p + 1) y ≡ sets l p (x ∷ y ∷ [])
two l p x y = rw (add-one p)

-- a store and a run
pub one-run : (l : List ℕ) (p x : ℕ) (w : List ℕ) → sets (set l p x) (p + 1) w ≡ sets l p (x ∷ w)
one-run l p x w = rw (add-one p)

pub line-parts : (n k load : ℕ) (f : ℕ → ℕ) → cell_line n k load f ≡ decimal (k + 1) ++ ((44 ∷ []) ++ (decimal load ++ (marks f 0 n ++ crlf)))
unfolding cell_line label
line-parts n k load f = simp append_assoc

pub header-parts : (n : ℕ) → header n ≡ cell_load ++ (columns 0 n ++ crlf)
unfolding header
header-parts n = refl
