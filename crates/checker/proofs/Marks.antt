-- The checker's words and marks, position by position: the words of the cells from a on, and the marks with what they meet. Assumes nothing.
use mathlib.Core.Path.{◌≡◌, refl, ap, ap₂, ◌∙◌}
use mathlib.Core.Bool.{Bool, not}
use mathlib.Core.List.{List}
use Prim.Native.Nat.{ℕ, ◌+◌, ◌*◌, ◌%◌, ◌^◌, ◌≤◌, ◌<◌, zero-le}
use native.Mathlib.Nat.{add_assoc}
use lib.Bits.{bit_and, bit_or}
use lib.Dec.{ltb, eqb}
use lib.ListN.{length, get_or}
use lib.Seq.{sets}
use Rattle.laws.specs.Choice.{pick}
use Rattle.laws.specs.Part.{list_of, Zeros}
use Rattle.laws.specs.Search.{first}
use Rattle.laws.proofs.Bits.{one_shl}
use Rattle.laws.proofs.Search.{first-same}
use Rattle.laws.proofs.Stores.{sets-at, sets-next}
use Rattle.theory.specs.Greedy.{sends, reserved}
use Rattle.theory.specs.Verdict.{clashes_at, first_at}
use Rattle.words.specs.Words.{word_from, joined_at, marked_at, joined_row, marked_row}
use Rattle.words.proofs.Words.{from_more}
use Rattle.words.proofs.Meets.{mark-none, mark-more}
use Rattle.checker.specs.Marks.{clash_net, clashing_in, mark_set, Marks}

-- t is a table for so many cells, with rows of n bytes; the m positions from `from` on
module _ (cells n : ℕ) (rows t : List ℕ) (from m : ℕ) where
  -- part way: mark k is set exactly where some cell from a on clashes at position from + k with a cell above it
  abbrev pub MarksFrom : ℕ → List ℕ → Type 0
  MarksFrom a marks = (k : ℕ) → k < m → mark_set marks k ≡ ltb (first (clashes_at (clash_net cells n rows) (reserved n t) (from + k)) a cells) cells

  -- no cell is joined yet, and the marks are 0
  pub marks-none : (marks : List ℕ) → Zeros m marks → MarksFrom cells marks
  marks-none marks h k l = ap (λ x. not (eqb x 0)) (h k l) ∙ mark-none (clash_net cells n rows) rows refl (reserved n t) (from + k)

  module _ (a : ℕ) (below : a < cells) (l w : List ℕ) (long : m ≤ length l)
      (words : w ≡ sets l 0 (list_of (λ k. word_from (a + 1) cells (reserved n t) (from + k)) m)) where
    -- cell a joined to the words
    pub words_more : (r : List ℕ) → a < 32 → r ≡ joined_row w t (a * n + from) m (1 * 2 ^ a % 4294967296)
        → r ≡ sets l 0 (list_of (λ k. word_from a cells (reserved n t) (from + k)) m)
    words_more r few d =
        sets-next (λ k. word_from (a + 1) cells (reserved n t) (from + k)) (joined_at w t (a * n + from) (1 * 2 ^ a % 4294967296))
        (λ k. word_from a cells (reserved n t) (from + k)) m l w r long words d (λ k b g.
        ap₂ bit_or g (ap₂ (λ i y. pick (sends (get_or t i 0)) y 0) (add_assoc (a * n) from k) (one_shl a few))
        ∙ from_more (λ i. reserved n t i (from + k)) cells a below)

    -- and its hits to the marks
    pub marks-more : (x r : List ℕ) → m ≤ length x → MarksFrom (a + 1) x
        → r ≡ marked_row x w t (a * n + from) m (get_or rows a 0) → MarksFrom a r
    marks-more x r fits e d k b =
        ap (λ y. not (eqb y 0))
        (ap (λ (z : List ℕ). get_or z k 0) d
        ∙ sets-at (marked_at x w t (a * n + from) (get_or rows a 0)) m x k b fits
        ∙ ap₂ (λ i y. bit_or (get_or x k 0) (pick (sends (get_or t i 0)) (bit_and y (get_or rows a 0)) 0)) (add_assoc (a * n) from k)
        (ap (λ (z : List ℕ). get_or z k 0) words ∙ sets-at (λ j. word_from (a + 1) cells (reserved n t) (from + j)) m l k b long))
        ∙ mark-more (clash_net cells n rows) rows refl (reserved n t) (from + k) a (get_or x k 0) below (e k b)

  -- all cells are joined
  pub marks-all : (marks : List ℕ) → MarksFrom 0 marks → Marks (clashing_in cells n rows t) from m marks
  unfolding first_at
  marks-all marks h = h

-- the lowest mark is the lowest position that passes
pub marks-lowest : (test : ℕ → Bool) (from m : ℕ) (marks : List ℕ) → Marks test from m marks → first (mark_set marks) 0 m ≡ first (λ k. test (from + k)) 0 m
marks-lowest test from m marks h = first-same (mark_set marks) (λ k. test (from + k)) 0 m zero-le (λ k _ l. h k l)
