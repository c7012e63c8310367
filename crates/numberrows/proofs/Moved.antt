-- Arrays in new numbers: what stands where, and that rows which are moved, turned over, moved and turned over again have rows and bits moved. Assumes nothing.
use mathlib.Core.Path.{◌≡◌, refl, sym, ap, ◌∙◌}
use mathlib.Core.Bool.{Bool, true, false, ◌&&◌, and-false}
use mathlib.Core.List.{List}
use Prim.Native.Nat.{ℕ, ◌+◌, ◌-◌, ◌≤◌, ◌<◌}
use native.Mathlib.Omega.{arith}
use lib.Dec.{ltb}
use lib.ListN.{get_or, set, replicate}
use lib.Seq.{sets}
use borrow.Author.Tests.{lt-ltb, le-ltb, ltb-true}
use Rattle.laws.specs.Bits.{bit_at, bit_in, word_of}
use Rattle.laws.specs.Choice.{pick}
use Rattle.laws.specs.Part.{list_of}
use Rattle.laws.proofs.Bits.{none_in}
use Rattle.laws.proofs.Stores.{list_at, list-eq, sets-zeros, sets_more}
use Rattle.laws.proofs.Words.{word-eq, word-bit, word-within, none-word}
use Rattle.square.specs.Turned.{turned}
use Rattle.square.proofs.Square.{turned_bit}
use Rattle.renumbering.specs.Numbering.{index_at}
use Rattle.numberrows.specs.Numbers.{NamesCells, moved_by, moved_rows}

module _ (old : List ℕ) (n : ℕ) (l : List ℕ) where
  -- what stands at a
  abbrev pub move_at : ℕ → ℕ
  move_at a = pick (ltb a n) (get_or l (index_at old a) 0) 0

  -- one store more
  pub moved_more : (a v : ℕ) (x l₀ : List ℕ) → a < n → v ≡ get_or l (index_at old a) 0 → x ≡ sets l₀ 0 (list_of move_at a)
      → set x a v ≡ sets l₀ 0 (list_of move_at (a + 1))
  moved_more a v x l₀ h e = sets_more move_at a v x l₀ (e ∙ sym (ap (λ t. pick t (get_or l (index_at old a) 0) 0) (lt-ltb a n h)))

  pub moved-end : n ≤ 32 → sets (replicate 32 0) 0 (list_of move_at n) ≡ moved_by old n l
  unfolding moved_by
  moved-end few = sets-zeros move_at n 32 few (λ k h m. ap (λ t. pick t (get_or l (index_at old k) 0) 0) (le-ltb k n h))

  pub moved_at-law : (a : ℕ) → n ≤ 32 → a < n → get_or (moved_by old n l) a 0 ≡ get_or l (index_at old a) 0
  unfolding moved_by
  moved_at-law a few h = list_at move_at 32 a (omega arith) ∙ ap (λ t. pick t (get_or l (index_at old a) 0) 0) (lt-ltb a n h)

  pub moved-past : (a : ℕ) → n ≤ a → a < 32 → get_or (moved_by old n l) a 0 ≡ 0
  unfolding moved_by
  moved-past a h m = list_at move_at 32 a m ∙ ap (λ t. pick t (get_or l (index_at old a) 0) 0) (le-ltb a n h)

  bit-pick : (t : Bool) (x b : ℕ) → bit_at (pick t x 0) b ≡ (t && bit_at x b)
  bit-pick true x b = refl
  bit-pick false x b = none_in b

  moved-bit : (a b : ℕ) → a < 32 → bit_in (moved_by old n l) a b ≡ (ltb a n && bit_in l (index_at old a) b)
  unfolding moved_by
  moved-bit a b h = ap (λ (x : ℕ). bit_at x b) (list_at move_at 32 a h) ∙ bit-pick (ltb a n) (get_or l (index_at old a) 0) b

-- ---- rows of bits

module _ (old : List ℕ) (n : ℕ) (rows : List ℕ) where
  -- bit b of row a
  abbrev pub moved_bit : ℕ → ℕ → Bool
  moved_bit a b = ltb a n && (ltb b n && bit_in rows (index_at old a) (index_at old b))

  pub rows_at : (a b : ℕ) → a < 32 → b < 32 → bit_in (moved_rows old n rows) a b ≡ moved_bit a b
  unfolding moved_rows
  rows_at a b h m = ap (λ (x : ℕ). bit_at x b) (list_at (λ a. word_of (moved_bit a) 32) 32 a h) ∙ word-bit (moved_bit a) 32 b m

  -- row a bit by bit, and all rows where the others are 0
  pub row-few : (a : ℕ) → n ≤ 32 → a < n → word_of (λ b. bit_in rows (index_at old a) (index_at old b)) n ≡ word_of (moved_bit a) 32
  row-few a few h =
      let p : ℕ → Bool = λ b. bit_in rows (index_at old a) (index_at old b) in
      let e : n + (32 - n) ≡ 32 = omega arith in
      sym (word-within p n (32 - n))
      ∙ ap (word_of (λ b. ltb b n && p b)) e
      ∙ word-eq (λ b. ltb b n && p b) (moved_bit a) 32 (λ b m. sym (ap (λ t. t && (ltb b n && p b)) (lt-ltb a n h)))

  pub few-end : n ≤ 32 → sets (replicate 32 0) 0 (list_of (λ a. word_of (moved_bit a) 32) n) ≡ moved_rows old n rows
  unfolding moved_rows
  few-end few =
      sets-zeros (λ a. word_of (moved_bit a) 32) n 32 few (λ k h m.
      none-word (moved_bit k) 32 (λ b l. ap (λ t. t && (ltb b n && bit_in rows (index_at old k) (index_at old b))) (le-ltb k n h)))

  module _ (few : n ≤ 32) (names : NamesCells n old) where
    abbrev columns : List ℕ
    columns = turned (moved_by old n rows)

    turn_at : (a b : ℕ) → a < 32 → b < 32 → (t : Bool) → ltb b n ≡ t
        → (t && bit_in columns (index_at old b) a) ≡ (ltb a n && (t && bit_in rows (index_at old a) (index_at old b)))
    turn_at a b h m true e =
        let inside = names b (ltb-true b n e) in
        turned_bit (moved_by old n rows) (index_at old b) a (omega (arith, inside.1)) h ∙ moved-bit old n rows a (index_at old b) h
    turn_at a b h m false e = sym (and-false (ltb a n))

    turned-is : (l : List ℕ) → turned l ≡ list_of (λ a. word_of (λ b. bit_in l b a) 32) 32
    unfolding turned
    turned-is l = refl

    pub turned-moved : turned (moved_by old n columns) ≡ moved_rows old n rows
    unfolding moved_rows
    turned-moved =
        turned-is (moved_by old n columns)
        ∙ list-eq (λ a. word_of (λ b. bit_in (moved_by old n columns) b a) 32) (λ a. word_of (moved_bit a) 32) 32 (λ a h.
        word-eq (λ b. bit_in (moved_by old n columns) b a) (moved_bit a) 32 (λ b m.
        moved-bit old n columns b a m ∙ turn_at a b h m (ltb b n) refl))
