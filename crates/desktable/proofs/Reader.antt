-- The reader of a picture's rows, as it can be computed: `hear_numbers` has two arms, of which the prover would compute both at every byte of the row. Here the
-- other arm waits, and a byte that begins no row is passed over. Assumes nothing.
use Prim.Native.Nat.{ℕ}
use mathlib.Core.Path.{◌≡◌, refl, ◌∙◌}
use mathlib.Core.Bool.{Bool, true, false}
use mathlib.Core.List.{List, [], ◌∷◌, ◌++◌}
use lib.Dec.{eqb}
use lib.ListN.{length, drop}
use Rattle.laws.specs.Choice.{pick}
use Rattle.text.specs.Decimal.{decimal}
use Rattle.lines.specs.Match.{starts}
use Rattle.lines.specs.Content.{scanned}
use Rattle.readback.specs.Back.{hear_numbers, row_with, rows_heard}
use Rattle.readback.proofs.Back.{skip-byte}

-- the numbers of a row
unfoldable pub numbers_in : List ℕ → List ℕ → List ℕ
numbers_in [] text = []
numbers_in (b ∷ []) text = []
numbers_in (b ∷ mark ∷ row) text =
    let rest = numbers_in row (drop (length (decimal (scanned 0 text))) text) in
    pick (eqb b 64) (scanned 0 text ∷ rest) (numbers_in (mark ∷ row) (drop 1 text))

numbers-in : (row text : List ℕ) → hear_numbers row text ≡ numbers_in row text
unfolding hear_numbers numbers_in
numbers-in [] text = refl
numbers-in (b ∷ []) text = refl
numbers-in (b ∷ mark ∷ row) text =
    rw (numbers-in row (drop (length (decimal (scanned 0 text))) text), numbers-in (mark ∷ row) (drop 1 text))

-- what is read where a text begins
unfoldable pub heard_in : List ℕ → List ℕ → List (List ℕ)
heard_in row text = let v = numbers_in row text in pick (starts (row_with row v) text) (v ∷ []) []

-- and at every place of it, by a reader of a row that begins with <
unfoldable pub read_in : List ℕ → List ℕ → List (List ℕ)
read_in row [] = []
read_in row (b ∷ text) = pick (eqb b 60) (heard_in (60 ∷ row) (b ∷ text)) [] ++ read_in row text

pub read-in : (row text : List ℕ) → rows_heard (60 ∷ row) text ≡ read_in row text
unfolding rows_heard heard_in read_in
read-in row [] = refl
read-in row (b ∷ text) = go (eqb b 60) refl (read-in row text)
  where
    go : (t : Bool) → eqb b 60 ≡ t → rows_heard (60 ∷ row) text ≡ read_in row text
        → rows_heard (60 ∷ row) (b ∷ text) ≡ pick t (heard_in (60 ∷ row) (b ∷ text)) [] ++ read_in row text
    go true e h = rw (h, numbers-in (60 ∷ row) (b ∷ text))
    go false e h = skip-byte row b text e ∙ h
