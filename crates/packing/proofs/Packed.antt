-- A row's positions as words. The plain words of a block have its positions in order, by the digits of a place; past the row's end no position is reserved.
-- Assumes nothing.
use mathlib.Core.Path.{◌≡◌, refl, sym, ap, ap₂, ◌∙◌}
use mathlib.Core.Bool.{Bool, true, false, ◌&&◌}
use mathlib.Core.Logic.{⊎_elim}
use mathlib.Core.List.{List}
use Prim.Native.Nat.{ℕ, zero, suc, ◌+◌, ◌-◌, ◌*◌, ◌/◌, ◌%◌, ◌≤◌, ◌<◌}
use native.Mathlib.Nat.{zero-add}
use native.Mathlib.Omega.{arith}
use lib.Dec.{eqb, ltb}
use lib.ListN.{length, get_or, replicate, get_or-eq_default}
use lib.Seq.{sets}
use borrow.Author.Tests.{eqb-true, eqb-false, ne_eqb, ltb-false}
use Rattle.laws.specs.Bits.{bit_at, word_of}
use Rattle.laws.specs.Choice.{pick}
use Rattle.laws.specs.Part.{list_of}
use Rattle.laws.proofs.Choice.{cases}
use Rattle.laws.proofs.Stores.{sets-at, sets-next, sets-zeros, list_at}
use Rattle.laws.proofs.Words.{word-bit, word-eq, word-within, none-word}
use Rattle.theory.specs.Greedy.{sends}
use Rattle.blocks.specs.Order.{low_sends, high_sends}
use Rattle.blockwords.specs.Plain.{plain_bit}
use Rattle.positions.specs.Blocked.{word_in}
use Rattle.packing.specs.Packed.{in_row, block_word, plain_word, one_of}

past_row : (row : List ℕ) (k : ℕ) → length row ≤ k → in_row row k ≡ false
past_row row k h = ap sends (get_or-eq_default row 0 h)

-- ---- a block

module _ (row : List ℕ) (from c j x y : ℕ) (few : c ≤ 4) (here : from + 16 * c ≡ 64 * j)
    (low : x ≡ word_of (low_sends row from) 64) (high : y ≡ word_of (high_sends row from) 64) where
  block-bit : (t : Bool) (q : ℕ) → q < 64 → eqb (q / 8 % 2) 0 ≡ t
      → pick t (bit_at x (8 * (q % 8) + (q / 16 + c))) (bit_at y (8 * (q % 8) + (q / 16 + c))) ≡ in_row row (64 * j + q)
  block-bit true q h e =
      let d : q / 8 % 2 ≡ 0 = eqb-true (q / 8 % 2) 0 e in
      ap (λ (n : ℕ). bit_at n (8 * (q % 8) + (q / 16 + c))) low
      ∙ word-bit (low_sends row from) 64 (8 * (q % 8) + (q / 16 + c)) (omega arith)
      ∙ ap (λ (n : ℕ). in_row row n) (place (q / 16 + c) (q % 8) (omega arith) (omega arith))
    where
      place : (a b : ℕ) → a < 8 → 16 * a + b ≡ 16 * c + q → from + (16 * ((8 * b + a) % 8) + (8 * b + a) / 8) ≡ 64 * j + q
      place a b l g =
          let m : (8 * b + a) % 8 ≡ a = omega arith in
          let d : (8 * b + a) / 8 ≡ b = omega arith in
          rw (m, d) (omega (arith, here))
  block-bit false q h e =
      let n : q / 8 % 2 ≡ 0 → ⊥ = eqb-false (q / 8 % 2) 0 e in
      let d : q / 8 % 2 ≡ 1 = omega arith in
      ap (λ (n : ℕ). bit_at n (8 * (q % 8) + (q / 16 + c))) high
      ∙ word-bit (high_sends row from) 64 (8 * (q % 8) + (q / 16 + c)) (omega arith)
      ∙ ap (λ (n : ℕ). in_row row n) (place (q / 16 + c) (q % 8) (omega arith) (omega arith))
    where
      place : (a b : ℕ) → a < 8 → 16 * a + b + 8 ≡ 16 * c + q → from + (16 * ((8 * b + a) % 8) + (8 * b + a) / 8 + 8) ≡ 64 * j + q
      place a b l g =
          let m : (8 * b + a) % 8 ≡ a = omega arith in
          let d : (8 * b + a) / 8 ≡ b = omega arith in
          rw (m, d) (omega (arith, here))

  -- a plain word of a block
  pub block-plain : word_of (plain_bit c x y) 64 ≡ word_in (in_row row) j
  block-plain = word-eq (plain_bit c x y) (λ q. in_row row (64 * j + q)) 64 (λ q h. block-bit (eqb (q / 8 % 2) 0) q h refl)

-- ---- words by twos

module _ (k : ℕ) where
  abbrev half : 2 * k / 2 ≡ k
  half = omega arith

  abbrev half' : (2 * k + 1) / 2 ≡ k
  half' = omega arith

  abbrev even : 2 * k % 2 ≡ 0
  even = omega arith

  abbrev odd : (2 * k + 1) % 2 ≡ 1
  odd = omega arith

  pub block-low : (row : List ℕ) → word_of (low_sends row (128 * k)) 64 ≡ block_word row (2 * k)
  unfolding block_word
  block-low row = rw (even, half)

  pub block-high : (row : List ℕ) → word_of (high_sends row (128 * k)) 64 ≡ block_word row (2 * k + 1)
  unfolding block_word
  block-high row = rw (odd, half')

  module _ (l : List ℕ) (x y : ℕ) (e : x ≡ get_or l (2 * k) 0) (d : y ≡ get_or l (2 * k + 1) 0) where
    pub plain-low : word_of (plain_bit 0 x y) 64 ≡ plain_word l (2 * k)
    unfolding plain_word
    plain-low = ap₂ (λ (a b : ℕ). word_of (plain_bit 0 a b) 64) e d ∙ rw (even, half)

    pub plain-high : word_of (plain_bit 4 x y) 64 ≡ plain_word l (2 * k + 1)
    unfolding plain_word
    plain-high = ap₂ (λ (a b : ℕ). word_of (plain_bit 4 a b) 64) e d ∙ rw (odd, half')

-- ---- the rest of a row

-- the bytes from a place on, of which there are at most 128, among zeros
pub rest_at : (row v : List ℕ) (from : ℕ) → from ≤ length row → length row ≤ from + 128
    → v ≡ sets (replicate 128 0) 0 (list_of (λ i. get_or row (from + i) 0) (length row - from)) → (k : ℕ) → k < 128 → get_or v k 0 ≡ get_or row (from + k) 0
rest_at row v from h few e k l =
    ap (λ (z : List ℕ). get_or z k 0)
    (e ∙ sets-zeros (λ i. get_or row (from + i) 0) (length row - from) 128 (omega arith) (λ i a b. get_or-eq_default row 0 (omega arith)))
    ∙ list_at (λ i. get_or row (from + i) 0) 128 k l

module _ (row v : List ℕ) (from : ℕ) (h : from ≤ length row) (few : length row ≤ from + 128)
    (e : v ≡ sets (replicate 128 0) 0 (list_of (λ i. get_or row (from + i) 0) (length row - from))) where
  rest-sends : (k : ℕ) → k < 128 → sends (get_or v (0 + k) 0) ≡ sends (get_or row (from + k) 0)
  rest-sends k l = ap (λ (n : ℕ). sends (get_or v n 0)) (zero-add k) ∙ ap sends (rest_at row v from h few e k l)

  pub rest-low : word_of (low_sends v 0) 64 ≡ word_of (low_sends row from) 64
  rest-low = word-eq (low_sends v 0) (low_sends row from) 64 (λ q l. rest-sends (16 * (q % 8) + q / 8) (omega arith))

  pub rest-high : word_of (high_sends v 0) 64 ≡ word_of (high_sends row from) 64
  rest-high = word-eq (high_sends v 0) (high_sends row from) 64 (λ q l. rest-sends (16 * (q % 8) + q / 8 + 8) (omega arith))

-- the words of the last block, and those past it
module _ (row : List ℕ) (m low high x y : ℕ) (few : length row ≤ 128 * m + 128)
    (l : low ≡ word_of (low_sends row (128 * m)) 64) (h : high ≡ word_of (high_sends row (128 * m)) 64)
    (ex : x ≡ word_of (plain_bit 0 low high) 64) (ey : y ≡ word_of (plain_bit 4 low high) 64) where
  pub last_word-law : (d : ℕ) → one_of x y d ≡ word_in (in_row row) (2 * m + d)
  unfolding one_of
  last_word-law zero = ex ∙ block-plain row (128 * m) 0 (2 * m + 0) low high (omega arith) (omega arith) l h
  last_word-law (suc zero) = ey ∙ block-plain row (128 * m) 4 (2 * m + 1) low high (omega arith) (omega arith) l h
  last_word-law (suc (suc d)) =
      rw (ne_eqb (suc (suc d)) 0 (λ e. omega arith), ne_eqb (suc (suc d)) 1 (λ e. omega arith))
      (sym (none-word (λ b. in_row row (64 * (2 * m + suc (suc d)) + b)) 64 (λ b _. past_row row (64 * (2 * m + suc (suc d)) + b) (omega arith))))

-- ---- the whole row

-- w is what the blocks left, r their words put in order
module _ (row l w r : List ℕ) (m : ℕ) (fits : 2 * m ≤ length l) (e : w ≡ sets l 0 (list_of (block_word row) (2 * m)))
    (d : r ≡ sets w 0 (list_of (plain_word w) (2 * m))) where
  block_at : (j : ℕ) → j < 2 * m → get_or w j 0 ≡ block_word row j
  block_at j h = ap (λ (z : List ℕ). get_or z j 0) e ∙ sets-at (block_word row) (2 * m) l j h fits

  plain_at : (k t j : ℕ) → t < 2 → j ≡ 2 * k + t → j < 2 * m → plain_word w j ≡ word_in (in_row row) j
  plain_at k zero j s g h =
      let n : 2 * k + 0 ≡ 2 * k = omega arith in
      ap (plain_word w) (g ∙ n)
      ∙ sym (plain-low k w (get_or w (2 * k) 0) (get_or w (2 * k + 1) 0) refl refl)
      ∙ block-plain row (128 * k) 0 j (get_or w (2 * k) 0) (get_or w (2 * k + 1) 0) (omega arith) (omega arith)
      (block_at (2 * k) (omega arith) ∙ sym (block-low k row)) (block_at (2 * k + 1) (omega arith) ∙ sym (block-high k row))
  plain_at k (suc zero) j s g h =
      ap (plain_word w) g
      ∙ sym (plain-high k w (get_or w (2 * k) 0) (get_or w (2 * k + 1) 0) refl refl)
      ∙ block-plain row (128 * k) 4 j (get_or w (2 * k) 0) (get_or w (2 * k + 1) 0) (omega arith) (omega arith)
      (block_at (2 * k) (omega arith) ∙ sym (block-low k row)) (block_at (2 * k + 1) (omega arith) ∙ sym (block-high k row))
  plain_at k (suc (suc t)) j s g h = absurd (omega arith)

  pub blocks-plain : r ≡ sets l 0 (list_of (word_in (in_row row)) (2 * m))
  blocks-plain =
      sets-next (block_word row) (plain_word w) (word_in (in_row row)) (2 * m) l w r fits e d
      (λ j h _. plain_at (j / 2) (j % 2) j (omega arith) (omega arith) h)

-- ---- a short row

module _ (row : List ℕ) (few : length row ≤ 64) (x : ℕ) (e : x ≡ word_of (in_row row) (length row)) where
  -- past the row's end there is nothing
  short-at : (k : ℕ) → (ltb k (length row) && in_row row k) ≡ in_row row k
  short-at k =
      ⊎_elim (λ (t : ltb k (length row) ≡ true). ap (λ b. b && in_row row k) t)
      (λ (t : ltb k (length row) ≡ false). ap (λ b. b && in_row row k) t ∙ sym (past_row row k (ltb-false k (length row) t))) (cases (ltb k (length row)))

  short-first : x ≡ word_in (in_row row) 0
  short-first =
      let n : length row + (64 - length row) ≡ 64 = omega arith in
      e
      ∙ sym (word-within (in_row row) (length row) (64 - length row))
      ∙ ap (word_of (λ k. ltb k (length row) && in_row row k)) n
      ∙ word-eq (λ k. ltb k (length row) && in_row row k) (λ b. in_row row (64 * 0 + b)) 64 (λ k _. short-at k ∙ ap (in_row row) (sym (zero-add k)))

  short_none : (j : ℕ) → 1 ≤ j → 0 ≡ word_in (in_row row) j
  short_none j h = sym (none-word (λ b. in_row row (64 * j + b)) 64 (λ b _. past_row row (64 * j + b) (omega arith)))

  pub short-words : (d : ℕ) → one_of x 0 d ≡ word_in (in_row row) d
  unfolding one_of
  short-words zero = short-first
  short-words (suc zero) = short_none 1 (omega arith)
  short-words (suc (suc d)) =
      rw (ne_eqb (suc (suc d)) 0 (λ e. omega arith), ne_eqb (suc (suc d)) 1 (λ e. omega arith)) (short_none (suc (suc d)) (omega arith))
