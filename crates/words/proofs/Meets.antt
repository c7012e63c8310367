-- A cell meets the cells above it: what it shares with its clash row in their word, where it is reserved, is not 0 exactly where it clashes with one of them.
-- So a mark with all that the cells from a on meet is not 0 exactly where a search from a on finds a clash. For a problem whose clash relation the rows state.
-- Assumes nothing.
use mathlib.Core.Path.{◌≡◌, refl, sym, ap, ◌∙◌}
use mathlib.Core.Bool.{Bool, true, false, ◌&&◌, not}
use mathlib.Core.List.{List}
use mathlib.Core.Logic.{⊎_elim}
use Prim.Native.Nat.{ℕ, ◌+◌, ◌<◌}
use native.Mathlib.Nat.{le_refl}
use native.Mathlib.Omega.{arith}
use lib.Bits.{bit_and, bit_or, or_zero_r, or_add_and, and_le_l}
use lib.Dec.{ltb, eqb}
use lib.ListN.{get_or}
use borrow.Author.Tests.{lt-ltb, le-ltb, eqb-true, eqb-false, ne_eqb}
use Rattle.laws.specs.Choice.{pick}
use Rattle.laws.specs.Bits.{bit_in}
use Rattle.laws.specs.Search.{first}
use Rattle.laws.proofs.Choice.{cases}
use Rattle.laws.proofs.Search.{first-hit, first-miss, first-end}
use Rattle.theory.specs.Net.{Net, Reserved}
use Rattle.theory.specs.Verdict.{second_at, clashes_at}
use Rattle.words.specs.Words.{word_from, met_at}
use Rattle.words.proofs.Words.{from-shares}

-- something joined to a mark
joined : (x y : ℕ) → (y ≡ 0 → ⊥) → not (eqb (bit_or x y) 0) ≡ true
joined x y h = ap not (ne_eqb (bit_or x y) 0 (λ e. h (omega (arith, or_add_and x y, and_le_l x y))))

module _ (s : Net) (rows : List ℕ) (states : s.clash ≡ bit_in rows) (res : Reserved) (k : ℕ) where
  met-if : (a : ℕ) (t : Bool) → a < s.cells
      → not (eqb (pick t (bit_and (word_from (a + 1) s.cells res k) (get_or rows a 0)) 0) 0) ≡ (t && ltb (second_at s res k a) s.cells)
  unfolding second_at
  met-if a true h =
      from-shares (λ i. res i k) s.cells (get_or rows a 0) a h
      ∙ ap (λ (clash : ℕ → ℕ → Bool). ltb (first (λ c. clash a c && res c k) (a + 1) s.cells) s.cells) (sym states)
  met-if a false h = refl

  met-clash : (a : ℕ) → a < s.cells → not (eqb (met_at rows s.cells res k a) 0) ≡ clashes_at s res k a
  unfolding clashes_at
  met-clash a h = met-if a (res a k) h

  -- no cell yet
  pub mark-none : not (eqb 0 0) ≡ ltb (first (clashes_at s res k) s.cells s.cells) s.cells
  mark-none = sym (ap (λ (i : ℕ). ltb i s.cells) (first-end (clashes_at s res k) s.cells s.cells (le_refl s.cells))
      ∙ le-ltb s.cells s.cells (le_refl s.cells))

  -- cell a joined to the cells above it
  pub mark-more : (a x : ℕ) → a < s.cells
      → not (eqb x 0) ≡ ltb (first (clashes_at s res k) (a + 1) s.cells) s.cells
      → not (eqb (bit_or x (met_at rows s.cells res k a)) 0) ≡ ltb (first (clashes_at s res k) a s.cells) s.cells
  mark-more a x h e =
      ⊎_elim
      (λ c.
      ap (λ y. not (eqb y 0)) (ap (bit_or x) (eqb-true (met_at rows s.cells res k a) 0 c) ∙ or_zero_r x)
      ∙ e
      ∙ sym (ap (λ (i : ℕ). ltb i s.cells) (first-miss (clashes_at s res k) a s.cells h (sym (met-clash a h) ∙ ap not c))))
      (λ c.
      joined x (met_at rows s.cells res k a) (eqb-false (met_at rows s.cells res k a) 0 c)
      ∙ sym (ap (λ (i : ℕ). ltb i s.cells) (first-hit (clashes_at s res k) a s.cells h (sym (met-clash a h) ∙ ap not c)) ∙ lt-ltb a s.cells h))
      (cases (eqb (met_at rows s.cells res k a) 0))
