-- What eating a text from the start says of whether the bytes start with it. Assumes nothing.
use Prim.Native.Nat.{ℕ, ◌+◌, ◌<◌}
use mathlib.Core.Path.{◌≡◌, refl}
use mathlib.Core.Bool.{Bool, true, false}
use mathlib.Core.List.{List}
use native.Mathlib.Omega.{arith}
use lib.ListN.{length}
use Rattle.laws.specs.Choice.{pick}
use Rattle.lines.specs.Match.{starts, eaten, nowhere}

module _ (s w : List ℕ) (r : ℕ) where
  pub eaten-not : length w < nowhere → r ≡ eaten s 0 w → r ≡ nowhere → false ≡ starts w s
  unfolding eaten
  eaten-not short e n = by (starts w s) e
    where
      by : (t : Bool) → r ≡ pick t (0 + length w) nowhere → false ≡ t
      by true q = absurd (omega (arith, q, n, short))
      by false q = refl

  pub eaten-all : r ≡ eaten s 0 w → (r ≡ nowhere → ⊥) → true ≡ starts w s
  unfolding eaten
  eaten-all e some = by (starts w s) e
    where
      by : (t : Bool) → r ≡ pick t (0 + length w) nowhere → true ≡ t
      by true q = refl
      by false q = absurd (some q)
