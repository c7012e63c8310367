-- W10. "Of all choices, the last number goes to the highest old number whose clashing cells all clash with one another, then the same for those left."
-- Cells are indices from 0; numbers are counted from 1, and 0 is "no number yet".
use Rattle.std.specs.Prelude.{Bool, ◌&&◌, ◌||◌, not, List, ℕ, zero, suc, ◌-◌, eqb, get_or, set, replicate}
use Rattle.laws.specs.Choice.{pick}
use Rattle.laws.specs.Sum.{any}

-- the greatest k below n with p k, counted from 1; 0 where there is none
unfoldable pub last : (ℕ → Bool) → ℕ → ℕ
last p zero = 0
last p (suc n) = pick (p n) (suc n) (last p n)

-- whether cell i has no new number yet
abbrev pub unnumbered : List ℕ → ℕ → Bool
unnumbered new i = eqb (get_or new i 0) 0

-- `clash` is that of the whole site, n its cells, `new` the new numbers given so far. Cells that have theirs are taken away; who clashes stays as it was.
module _ (clash : ℕ → ℕ → Bool) (n : ℕ) where
  -- of those left, a clashes with i
  abbrev pub near : List ℕ → ℕ → ℕ → Bool
  near new i a = unnumbered new a && clash i a

  -- b, left, clashes with i, and not with a, another cell
  unfoldable pub missing : List ℕ → ℕ → ℕ → ℕ → Bool
  missing new i a b = near new i b && not (eqb a b || clash a b)

  -- a, left, clashes with i, and not with each other cell that does
  unfoldable pub odd : List ℕ → ℕ → ℕ → Bool
  odd new i a = near new i a && any (missing new i a) n

  -- i is left, and its clashing cells among those left all clash with one another
  unfoldable pub fit : List ℕ → ℕ → Bool
  fit new i = unnumbered new i && not (any (odd new i) n)

-- the new number of each old one, and the old number of each new one; or no such numbering
pub data Numbering : Type 0 where
  numbered : List ℕ → List ℕ → Numbering
  stuck : Numbering

-- the number suc m goes to the cell h, counted from 1 (to none, if h is 0), and then the rest are given
abbrev pub give_to : ℕ → ℕ → List ℕ → List ℕ → (List ℕ → List ℕ → Numbering) → Numbering
give_to m zero new old rest = stuck
give_to m (suc i) new old rest = rest (set new i (suc m)) (set old m (suc i))

-- the numbers m, m - 1, .. 1 are given in turn, "the last number" first
unfoldable pub give_numbers : (ℕ → ℕ → Bool) → ℕ → ℕ → List ℕ → List ℕ → Numbering
give_numbers clash n zero new old = numbered new old
give_numbers clash n (suc m) new old = give_to m (last (fit clash n new) n) new old (λ new' old'. give_numbers clash n m new' old')

-- an array that holds no number
abbrev pub blank : ℕ → List ℕ
blank size = replicate size 0

-- the numbering of n cells, each array `size` long, 0 past n
unfoldable pub numbering : ℕ → (ℕ → ℕ → Bool) → ℕ → Numbering
numbering size clash n = give_numbers clash n n (blank size) (blank size)

-- the index that a number in an array names
abbrev pub index_at : List ℕ → ℕ → ℕ
index_at l a = get_or l a 0 - 1
