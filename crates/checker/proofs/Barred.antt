-- The marks of the positions that some cell reserves, and the lowest of them that is blocked, 64 positions at a time. Assumes nothing.
use mathlib.Core.Path.{◌≡◌, refl, sym, ap, ap₂, ◌∙◌}
use mathlib.Core.Bool.{Bool, true, false, ◌&&◌, ◌||◌, not, or-true, or-false, not-not}
use mathlib.Core.List.{List}
use mathlib.Core.Logic.{⊎_elim}
use Prim.Native.Nat.{ℕ, ◌+◌, ◌-◌, ◌*◌, ◌/◌, ◌%◌, ◌≤◌, ◌<◌, zero-le}
use native.Mathlib.Nat.{add_assoc}
use native.Mathlib.Omega.{arith}
use lib.Bits.{bit_and, bit_or, or_lt}
use lib.Dec.{eqb, ltb}
use lib.ListN.{length, get_or}
use borrow.Author.Tests.{ltb-true, ltb-false}
use Rattle.laws.specs.Bits.{bit_at, word_of}
use Rattle.laws.specs.Choice.{pick}
use Rattle.laws.specs.Part.{Zeros}
use Rattle.laws.specs.Search.{first}
use Rattle.laws.specs.Sum.{any}
use Rattle.laws.proofs.Any.{any-first, any-more}
use Rattle.laws.proofs.Bits.{bit-either, or-none, none_in}
use Rattle.laws.proofs.Choice.{cases}
use Rattle.laws.proofs.Search.{first-none, first-same}
use Rattle.laws.proofs.Stores.{sets-at}
use Rattle.laws.proofs.Words.{word_lt, word-bit, none-word, bits-eq}
use Rattle.theory.specs.Greedy.{sends, reserved}
use Rattle.theory.specs.Verdict.{holder_at, barred_at}
use Rattle.positions.specs.Blocked.{blocked_at}
use Rattle.positions.proofs.Counts.{blocked-at}
use Rattle.blocks.specs.Order.{low_order, high_order, low_sends, high_sends, bit_of_two, placed}
use Rattle.blocks.proofs.Places.{placed-is, placed-both}
use Rattle.checker.specs.Marks.{bar_net, held_in, mark_set, Marks, held_at, held_row}

joined : (t : Bool) (v : ℕ) → not (eqb (pick t 1 v) 0) ≡ (not (eqb v 0) || t)
joined true v = sym (or-true (not (eqb v 0)))
joined false v = sym (or-false (not (eqb v 0)))

-- t is a table with rows of n bytes; the m positions from `from` on
module _ (n : ℕ) (t : List ℕ) (from m : ℕ) where
  -- part way: mark k is set exactly where one of the first i cells reserves position from + k
  abbrev pub HeldTo : ℕ → List ℕ → Type 0
  HeldTo i marks = Marks (held_in i n t) from m marks

  pub held_none : (marks : List ℕ) → Zeros m marks → HeldTo 0 marks
  unfolding any
  held_none marks h k l = ap (λ x. not (eqb x 0)) (h k l)

  -- one cell more
  pub held_more : (i : ℕ) (x r : List ℕ) → m ≤ length x → HeldTo i x → r ≡ held_row x t (i * n + from) m → HeldTo (i + 1) r
  held_more i x r fits e d k b =
      ap (λ y. not (eqb y 0))
      (ap (λ (z : List ℕ). get_or z k 0) d
      ∙ sets-at (held_at x t (i * n + from)) m x k b fits
      ∙ ap (λ (j : ℕ). pick (sends (get_or t j 0)) 1 (get_or x k 0)) (add_assoc (i * n) from k))
      ∙ joined (reserved n t i (from + k)) (get_or x k 0)
      ∙ ap (λ q. q || reserved n t i (from + k)) (e k b)
      ∙ sym (any-more (λ j. reserved n t j (from + k)) i)

module _ (cells n : ℕ) (t : List ℕ) (from m word : ℕ) where
  -- none where the word has no bit
  pub no_word : word ≡ 0 → m ≡ first (λ k. bit_at word k && held_in cells n t (from + k)) 0 m
  no_word e =
      sym (first-none (λ k. bit_at word k && held_in cells n t (from + k)) 0 m zero-le
      (λ j _ _. ap (λ b. b && held_in cells n t (from + j)) (ap (λ (x : ℕ). bit_at x j) e ∙ none_in j)))

  -- the lowest mark of the word
  pub marks-word : (marks : List ℕ) → Marks (held_in cells n t) from m marks
      → first (λ k. bit_at word k && mark_set marks k) 0 m ≡ first (λ k. bit_at word k && held_in cells n t (from + k)) 0 m
  marks-word marks h =
      first-same (λ k. bit_at word k && mark_set marks k) (λ k. bit_at word k && held_in cells n t (from + k)) 0 m zero-le
      (λ k _ l. ap (λ b. bit_at word k && b) (h k l))

module _ (cells n : ℕ) (t blocked : List ℕ) where
  -- the test of `lowest_barred`
  bar-test : (k : ℕ) → (blocked_at blocked k && held_in cells n t k) ≡ barred_at (bar_net cells n blocked) (reserved n t) k
  unfolding barred_at holder_at
  bar-test k =
      ap₂ ◌&&◌ (sym (not-not (blocked_at blocked k)))
      (any-first (λ i. reserved n t i k) (λ i. reserved n t i k) 0 cells zero-le (λ c l e. (zero-le, e)) (λ c l b e. e))

  -- the word of 64 positions has their bits
  pub word_test : (from m : ℕ) → from % 64 ≡ 0 → m ≤ 64
      → first (λ k. bit_at (get_or blocked (from / 64) 0) k && held_in cells n t (from + k)) 0 m
      ≡ first (λ k. barred_at (bar_net cells n blocked) (reserved n t) (from + k)) 0 m
  word_test from m z few =
      first-same (λ k. bit_at (get_or blocked (from / 64) 0) k && held_in cells n t (from + k))
      (λ k. barred_at (bar_net cells n blocked) (reserved n t) (from + k)) 0 m zero-le
      (λ k _ l.
      let e : from + k ≡ 64 * (from / 64) + k = omega arith in
      ap (λ b. b && held_in cells n t (from + k)) (sym (ap (blocked_at blocked) e ∙ blocked-at blocked (from / 64) k (omega arith))) ∙ bar-test (from + k))

  -- two words have the bits of 128 positions
  two-words : (from k : ℕ) → from % 64 ≡ 0 → k < 128 → bit_of_two (get_or blocked (from / 64) 0) (get_or blocked (from / 64 + 1) 0) k ≡ blocked_at blocked
      (from + k)
  two-words from k z h =
      ⊎_elim
      (λ (c : ltb k 64 ≡ true).
      let l : k < 64 = ltb-true k 64 c in
      let e : 64 * (from / 64) + k ≡ from + k = omega arith in
      ap (λ t. pick t (bit_at (get_or blocked (from / 64) 0) k) (bit_at (get_or blocked (from / 64 + 1) 0) (k - 64))) c
      ∙ sym (blocked-at blocked (from / 64) k l) ∙ ap (blocked_at blocked) e)
      (λ (c : ltb k 64 ≡ false).
      let l : 64 ≤ k = ltb-false k 64 c in
      let e : 64 * (from / 64 + 1) + (k - 64) ≡ from + k = omega arith in
      ap (λ t. pick t (bit_at (get_or blocked (from / 64) 0) k) (bit_at (get_or blocked (from / 64 + 1) 0) (k - 64))) c
      ∙ sym (blocked-at blocked (from / 64 + 1) (k - 64) (omega arith)) ∙ ap (blocked_at blocked) e)
      (cases (ltb k 64))

  pub two-test : (from : ℕ) → from % 64 ≡ 0
      → first (λ k. bit_of_two (get_or blocked (from / 64) 0) (get_or blocked (from / 64 + 1) 0) k && held_in cells n t (from + k)) 0 128
      ≡ first (λ k. barred_at (bar_net cells n blocked) (reserved n t) (from + k)) 0 128
  two-test from z =
      first-same (λ k. bit_of_two (get_or blocked (from / 64) 0) (get_or blocked (from / 64 + 1) 0) k && held_in cells n t (from + k))
      (λ k. barred_at (bar_net cells n blocked) (reserved n t) (from + k)) 0 128 zero-le
      (λ k _ l. ap (λ b. b && held_in cells n t (from + k)) (two-words from k z l) ∙ bar-test (from + k))

-- ---- a block

-- a word joined to another, by tests
join-words : (p r s : ℕ → Bool) (x y : ℕ) → ((q : ℕ) → (p q || r q) ≡ s q) → x ≡ word_of p 64 → y ≡ word_of r 64 → bit_or x y ≡ word_of s 64
join-words p r s x y same e g =
    bits-eq s (bit_or x y) 64 (or_lt 64 x y (rw e (word_lt p 64)) (rw g (word_lt r 64))) (λ q l.
    bit-either x y q
    ∙ ap₂ ◌||◌ (ap (λ (z : ℕ). bit_at z q) e ∙ word-bit p 64 q l) (ap (λ (z : ℕ). bit_at z q) g ∙ word-bit r 64 q l)
    ∙ same q)

module _ (n : ℕ) (t : List ℕ) (from : ℕ) where
  -- the positions of the block that one of the first i cells reserves
  abbrev held : ℕ → ℕ → Bool
  held i k = held_in i n t (from + k)

  pub no_cells : (0 ≡ word_of (low_order (λ k. held_in 0 n t (from + k))) 64) × (0 ≡ word_of (high_order (λ k. held_in 0 n t (from + k))) 64)
  unfolding any
  no_cells = (sym (none-word (low_order (held 0)) 64 (λ k l. refl)), sym (none-word (high_order (held 0)) 64 (λ k l. refl)))

  cell-more : (i k : ℕ) → (held i k || sends (get_or t (i * n + from + k) 0)) ≡ held (i + 1) k
  cell-more i k =
      ap (λ (j : ℕ). held i k || sends (get_or t j 0)) (add_assoc (i * n) from k) ∙ sym (any-more (λ j. reserved n t j (from + k)) i)

  -- one cell more
  module _ (i x y v w : ℕ) where
    pub low-more : x ≡ word_of (low_order (λ k. held_in i n t (from + k))) 64 → v ≡ word_of (low_sends t (i * n + from)) 64
        → bit_or x v ≡ word_of (low_order (λ k. held_in (i + 1) n t (from + k))) 64
    low-more e g =
        join-words (low_order (held i)) (low_sends t (i * n + from)) (low_order (held (i + 1))) x v (λ q. cell-more i (16 * (q % 8) + q / 8)) e g

    pub high-more : y ≡ word_of (high_order (λ k. held_in i n t (from + k))) 64 → w ≡ word_of (high_sends t (i * n + from)) 64
        → bit_or y w ≡ word_of (high_order (λ k. held_in (i + 1) n t (from + k))) 64
    high-more e g =
        join-words (high_order (held i)) (high_sends t (i * n + from)) (high_order (held (i + 1))) y w (λ q. cell-more i (16 * (q % 8) + q / 8 + 8)) e g

-- two words with no bit
pub two_none : (x y : ℕ) (with : ℕ → Bool) → bit_or x y ≡ 0 → 128 ≡ first (λ k. bit_of_two x y k && with k) 0 128
two_none x y with e = sym (first-none (λ k. bit_of_two x y k && with k) 0 128 zero-le (λ k _ _. ap (λ b. b && with k) (none k (ltb k 64))))
  where
    none : (k : ℕ) (b : Bool) → pick b (bit_at x k) (bit_at y (k - 64)) ≡ false
    none k true = ap (λ (w : ℕ). bit_at w k) (or-none x y e).0 ∙ none_in k
    none k false = ap (λ (w : ℕ). bit_at w (k - 64)) (or-none x y e).1 ∙ none_in (k - 64)

-- what two blocks share, and the lowest of it
pub two-shared : (p r : ℕ → Bool) (low high x y : ℕ) → low ≡ word_of (low_order p) 64 → high ≡ word_of (high_order p) 64 → x ≡ word_of (low_order r) 64
    → y ≡ word_of (high_order r) 64 → first (placed (bit_and low x) (bit_and high y)) 0 128 ≡ first (λ k. p k && r k) 0 128
two-shared p r low high x y d e f g =
    first-same (placed (bit_and low x) (bit_and high y)) (λ k. p k && r k) 0 128 zero-le (λ k _ l.
    placed-both low high x y k
    ∙ ap₂ ◌&&◌ (ap₂ (λ (a b : ℕ). placed a b k) d e ∙ placed-is p k l) (ap₂ (λ (a b : ℕ). placed a b k) f g ∙ placed-is r k l))
