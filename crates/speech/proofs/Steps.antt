-- What is left of a text, a place mark or a byte at a time. Assumes nothing.
use Prim.Native.Nat.{ℕ, ◌+◌, ◌≤◌, ◌<◌}
use mathlib.Core.Path.{◌≡◌, refl}
use mathlib.Core.Bool.{Bool, true, false}
use mathlib.Core.Logic.{⊎_elim}
use mathlib.Core.List.{List, [], ◌∷◌, ◌++◌}
use native.Mathlib.Omega.{arith}
use lib.Dec.{ltb, eqb}
use borrow.Author.Tests.{ltb-true, ltb-false}
use lib.ListN.{length, drop, get_or}
use Rattle.laws.specs.Choice.{pick}
use Rattle.laws.proofs.Choice.{cases}
use Rattle.text.proofs.Left.{next-left, none_left}
use Rattle.speech.specs.Speech.{spoken, mark_at}

module _ (words : ℕ → List ℕ) (text : List ℕ) (i : ℕ) where
  -- a place mark, and what comes after it
  pub mark-next : i + 1 < length text → eqb (get_or text i 0) 64 ≡ true
      → spoken words (drop i text) ≡ words (get_or text (i + 1) 0) ++ spoken words (drop (i + 2) text)
  unfolding spoken
  mark-next h e =
      let one = next-left text i (omega arith) in
      let two : drop (i + 1) text ≡ get_or text (i + 1) 0 ∷ drop (i + 1 + 1) text = next-left text (i + 1) h in
      let three : i + 1 + 1 ≡ i + 2 = omega arith in
      rw (one, two, e, three)

  -- a byte that is no @, and what comes after it
  other-next : i + 1 < length text → eqb (get_or text i 0) 64 ≡ false
      → spoken words (drop i text) ≡ get_or text i 0 ∷ spoken words (drop (i + 1) text)
  unfolding spoken
  other-next h e =
      let one = next-left text i (omega arith) in
      let two : drop (i + 1) text ≡ get_or text (i + 1) 0 ∷ drop (i + 1 + 1) text = next-left text (i + 1) h in
      rw (one, two, e)

  -- the last byte
  last-next : i < length text → length text ≤ i + 1 → spoken words (drop i text) ≡ get_or text i 0 ∷ spoken words (drop (i + 1) text)
  unfolding spoken
  last-next h l = rw (next-left text i h, none_left text (i + 1) l)

  -- a byte that begins no place mark
  pub byte_next : i < length text → mark_at text i ≡ false → spoken words (drop i text) ≡ get_or text i 0 ∷ spoken words (drop (i + 1) text)
  byte_next h e =
      ⊎_elim (λ t. other-next (ltb-true (i + 1) (length text) t) (rw t at e)) (λ t. last-next h (ltb-false (i + 1) (length text) t))
      (cases (ltb (i + 1) (length text)))

  marked : (t u : Bool) → pick t u false ≡ true → (t ≡ true) × (u ≡ true)
  marked true u e = (refl, e)
  marked false u e = let z : ◌≡◌ {A = Bool} false true = e in (z, cc)

  -- where a place mark begins
  pub mark-means : mark_at text i ≡ true → (i + 1 < length text) × (eqb (get_or text i 0) 64 ≡ true)
  mark-means e =
      let m = marked (ltb (i + 1) (length text)) (eqb (get_or text i 0) 64) e in
      (ltb-true (i + 1) (length text) m.0, m.1)

  pub all_said-law : length text ≤ i → spoken words (drop i text) ≡ []
  unfolding spoken
  all_said-law h = rw (none_left text i h)
