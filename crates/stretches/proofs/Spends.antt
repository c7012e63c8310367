-- A run taken off what each cell of a word has left, from one cell of the word to the next: cells that are not in the word keep what they have.
-- And who is in need then:
-- those that were, less those of the word that have nothing left. Assumes nothing.
use mathlib.Core.Path.{◌≡◌, sym, ap, ap₂, ◌∙◌}
use mathlib.Core.Bool.{Bool, true, false, ◌&&◌, ◌||◌, not, and-true, and-false, or-false}
use mathlib.Core.List.{List}
use mathlib.Core.Logic.{⊎_elim}
use Prim.Native.Nat.{ℕ, ◌+◌, ◌-◌, ◌^◌, ◌≤◌, ◌<◌}
use native.Mathlib.Decide.{le_ind}
use native.Mathlib.Omega.{arith}
use native.Mathlib.Nat.{le_refl}
use native.Mathlib.Numerals.{add-one}
use lib.Bits.{or_zero_l}
use lib.Count.{count_trailing_zeros}
use lib.Dec.{ltb, eqb}
use lib.ListN.{length, get_or, set}
use lib.Seq.{sets, get_or-set_same, get_or-set_other}
use borrow.Author.Tests.{lt-ltb, le-ltb, le-leb, eq-eqb, ne_eqb, ltb-true, ltb-false, eqb-true, eqb-false}
use Rattle.laws.specs.Bits.{bit_at, word_of}
use Rattle.laws.specs.Choice.{pick}
use Rattle.laws.specs.Part.{list_of}
use Rattle.laws.proofs.Bits.{none_in}
use Rattle.laws.proofs.Choice.{cases}
use Rattle.laws.proofs.Stores.{sets-none, sets_more, sets-kept, sets-beyond}
use Rattle.laws.proofs.Upward.{from_on, walk-done, walk_from, walk_here, walk-passed}
use Rattle.laws.proofs.Words.{bits-eq, set-one, word-bit, word_lt}
use Rattle.stretches.specs.Stretches.{in_need, spent}

-- ---- what is left

module _ (left : List ℕ) (word run cells : ℕ) where
  untouched : (b : ℕ) → bit_at word b ≡ false → get_or left b 0 ≡ spent left word run b
  untouched b e = let z : get_or left b 0 ≡ get_or left b 0 - 0 = omega arith in z ∙ ap (λ t. get_or left b 0 - pick t run 0) (sym e)

  on : (i j : ℕ) (x : List ℕ) → i ≤ j → ((b : ℕ) → i ≤ b → b < j → bit_at word b ≡ false) → x ≡ sets left 0 (list_of (spent left word run) i)
      → x ≡ sets left 0 (list_of (spent left word run) j)
  on i j x l none d =
      le_ind (λ (m : ℕ). m ≤ j → x ≡ sets left 0 (list_of (spent left word run) m)) (λ _. d)
      (λ m g go h. sets-kept (spent left word run) m x left (untouched m (none m g h)) (go (omega arith))
      ∙ ap (λ n. sets left 0 (list_of (spent left word run) n)) (add-one m))
      j l (le_refl j)

  pub unspent : word < 2 ^ cells → (left ≡ sets left 0 (list_of (spent left word run) 0)) × (word ≡ word_of (from_on (bit_at word) 0) cells)
  unspent h = (
    sets-none (spent left word run) left,
    bits-eq (from_on (bit_at word) 0) word cells h (λ b l. sym (ap (λ u. u && bit_at word b) (le-leb 0 b (omega arith)))),
  )

  module _ (k rest : ℕ) (x : List ℕ) (d : x ≡ sets left 0 (list_of (spent left word run) k)) (is-rest : rest ≡ word_of (from_on (bit_at word) k) cells) where
    pub spent_all : rest ≡ 0 → k ≤ cells → x ≡ sets left 0 (list_of (spent left word run) cells)
    spent_all done l = on k cells x l (walk-done (bit_at word) cells k rest is-rest done) d

    -- the cell that has its turn has what it had
    pub not_yet : (rest ≡ 0 → ⊥) → cells ≤ 32 → get_or x (count_trailing_zeros 32 rest) 0 ≡ get_or left (count_trailing_zeros 32 rest) 0
    not_yet some small =
        ap (λ z. get_or z (count_trailing_zeros 32 rest) 0)
        (on k (count_trailing_zeros 32 rest) x (walk_from (bit_at word) cells k rest is-rest some small)
        (walk-passed (bit_at word) cells k rest is-rest some small) d)
        ∙ sets-beyond (spent left word run) (count_trailing_zeros 32 rest) left (count_trailing_zeros 32 rest) (le_refl (count_trailing_zeros 32 rest))

    pub spent-more : (rest ≡ 0 → ⊥) → cells ≤ 32 → (v : ℕ) → v ≡ get_or x (count_trailing_zeros 32 rest) 0 - run
        → set x (count_trailing_zeros 32 rest) v ≡ sets left 0 (list_of (spent left word run) (count_trailing_zeros 32 rest + 1))
    spent-more some small v g =
        let at : ℕ = count_trailing_zeros 32 rest in
        let up : x ≡ sets left 0 (list_of (spent left word run) (count_trailing_zeros 32 rest))
        = on k (count_trailing_zeros 32 rest) x (walk_from (bit_at word) cells k rest is-rest some small)
        (walk-passed (bit_at word) cells k rest is-rest some small) d in
        sets_more (spent left word run) (count_trailing_zeros 32 rest) v x left
        (g ∙ ap₂ (λ y b. y - pick b run 0) (not_yet some small) (sym (walk_here (bit_at word) cells k rest is-rest some small))) up

-- ---- who is in need

-- a cell that was in need still is where the run leaves it something
still-test : (l run : ℕ) → (ltb 0 l && not (eqb (l - run) 0)) ≡ ltb 0 (l - run)
still-test l run = ⊎_elim some none (cases (ltb run l))
  where
    some : ltb run l ≡ true → (ltb 0 l && not (eqb (l - run) 0)) ≡ ltb 0 (l - run)
    some e =
        let g = ltb-true run l e in
        ap₂ (λ a b. a && not b) (lt-ltb 0 l (omega arith)) (ne_eqb (l - run) 0 (λ q. omega arith)) ∙ sym (lt-ltb 0 (l - run) (omega arith))

    none : ltb run l ≡ false → (ltb 0 l && not (eqb (l - run) 0)) ≡ ltb 0 (l - run)
    none e =
        let g = ltb-false run l e in
        ap (λ b. ltb 0 l && not b) (eq-eqb (l - run) 0 (omega arith)) ∙ and-false (ltb 0 l) ∙ sym (le-ltb 0 (l - run) (omega arith))

module _ (left : List ℕ) (cells need run i v : ℕ) (small : cells ≤ 32) (fits : cells ≤ length left) (inside : i < cells)
    (is-need : need ≡ word_of (in_need left) cells) (is-left : v ≡ get_or left i 0 - run) (need' : ℕ)
    (dropped : need' ≡ word_of (λ b. bit_at need b && not (bit_at (pick (eqb v 0) (2 ^ i) 0) b)) 32) (fewer : need' ≤ need) where
  was : (b : ℕ) → b < cells → bit_at need b ≡ in_need left b
  was b l = ap (λ x. bit_at x b) is-need ∙ word-bit (in_need left) cells b l

  -- a bit that is dropped is that of cell i
  only : (t : Bool) (b : ℕ) → bit_at (pick t (2 ^ i) 0) b ≡ (eqb b i && t)
  only t b =
      ap (λ x. bit_at x b) (sym (or_zero_l (pick t (2 ^ i) 0)))
      ∙ set-one t 0 i b
      ∙ ap (λ u. (eqb b i && t) || u) (none_in b)
      ∙ or-false (eqb b i && t)

  now : (b : ℕ) → b < cells → (in_need left b && not (eqb b i && eqb v 0)) ≡ in_need (set left i v) b
  now b l = ⊎_elim here there (cases (eqb b i))
    where
      here : eqb b i ≡ true → (in_need left b && not (eqb b i && eqb v 0)) ≡ in_need (set left i v) b
      here e =
          let q = eqb-true b i e in
          ap (λ t. in_need left b && not (t && eqb v 0)) e
          ∙ ap₂ (λ x y. ltb 0 (get_or left x 0) && not (eqb y 0)) q is-left
          ∙ still-test (get_or left i 0) run
          ∙ sym (ap (ltb 0) (ap (λ x. get_or (set left i v) x 0) q ∙ get_or-set_same left i v 0 (omega arith) ∙ is-left))

      there : eqb b i ≡ false → (in_need left b && not (eqb b i && eqb v 0)) ≡ in_need (set left i v) b
      there e =
          ap (λ t. in_need left b && not (t && eqb v 0)) e
          ∙ and-true (in_need left b)
          ∙ sym (ap (ltb 0) (get_or-set_other left i b v 0 (eqb-false b i e)))

  pub need-more : need' ≡ word_of (in_need (set left i v)) cells
  need-more =
      bits-eq (in_need (set left i v)) need' cells (omega (arith, is-need, word_lt (in_need left) cells)) (λ b l.
      ap (λ x. bit_at x b) dropped
      ∙ word-bit (λ b. bit_at need b && not (bit_at (pick (eqb v 0) (2 ^ i) 0) b)) 32 b (omega arith)
      ∙ ap₂ (λ x y. x && not y) (was b l) (only (eqb v 0) b)
      ∙ now b l)
