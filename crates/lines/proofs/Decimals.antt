-- The reader of one number: what the decimal writer wrote is read as the number, and what is accepted is what the writer would write. Assumes nothing.
use Prim.Native.Nat.{ℕ, ◌+◌, ◌≤◌, ◌<◌}
use mathlib.Core.Path.{◌≡◌, refl, ap, ◌∙◌}
use mathlib.Core.Bool.{Bool, true, false}
use mathlib.Core.List.{List, ◌∷◌, ◌++◌}
use lib.ListN.{length, drop}
use lib.Dec.{leb}
use borrow.Author.Tests.{le-leb, leb-true}
use Rattle.laws.specs.Choice.{pick}
use Rattle.text.specs.Decimal.{decimal}
use Rattle.lines.specs.Match.{starts, nowhere, eaten}
use Rattle.lines.specs.Content.{scanned, number_read}
use Rattle.lines.proofs.Match.{starts_is, starts-there}
use Rattle.lines.proofs.Numbers.{scanned-decimal, scanned-end}
use Rattle.lines.proofs.Steps.{eaten-there}

-- v stands at `at` as the writer writes it, and a comma or another byte below the digits comes after it
pub number-written :
    (s : List ℕ) (at most v d : ℕ) (r : List ℕ) → drop at s ≡ decimal v ++ (d ∷ r) → d < 48 → v ≤ most → v < 100000 →
    number_read s at most ≡ record { value = v; next = at + length (decimal v) }
unfolding number_read eaten
number-written s at most v d r e h l few =
    let is : scanned 0 (drop at s) ≡ v = ap (scanned 0) e ∙ scanned-decimal v (d ∷ r) few ∙ scanned-end v d r h in
    let there : starts (decimal v) (drop at s) ≡ true = ap (starts (decimal v)) e ∙ starts-there (decimal v) (d ∷ r) in
    rw (is, le-leb v most l, there)

-- an accepted number is at most the bound, and the bytes there are those that the writer gives
pub number-accepted :
    (s : List ℕ) (at most : ℕ) → ((number_read s at most).next ≡ nowhere → ⊥) → let v = (number_read s at most).value in
    (v ≤ most) × ((number_read s at most).next ≡ at + length (decimal v)) × (drop at s ≡ decimal v ++ drop (length (decimal v)) (drop at s))
unfolding number_read
number-accepted s at most n = go (leb (scanned 0 (drop at s)) most) refl n
  where
    go : (t : Bool) → leb (scanned 0 (drop at s)) most ≡ t → (pick t (eaten s at (decimal (scanned 0 (drop at s)))) nowhere ≡ nowhere → ⊥) →
        (scanned 0 (drop at s) ≤ most) × (pick t (eaten s at (decimal (scanned 0 (drop at s)))) nowhere ≡ at + length (decimal (scanned 0 (drop at s))))
        × (drop at s ≡ decimal (scanned 0 (drop at s)) ++ drop (length (decimal (scanned 0 (drop at s)))) (drop at s))
    go true e m = let t = eaten-there s at (decimal (scanned 0 (drop at s))) m in (leb-true _ _ e, t.1, starts_is _ _ t.0)
    go false e m = absurd (m refl)
