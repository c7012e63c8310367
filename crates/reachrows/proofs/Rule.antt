-- A clash row as the code makes it: the cells that a reaches, joined with the word of those that reach it, and under rule 2 of those that reach a third cell
-- with it. Two rows, each without its own cell, share a bit exactly where some third cell is reached by both. Assumes nothing.
use Prim.Native.Nat.{ℕ, ◌+◌, ◌*◌, ◌/◌, ◌%◌, ◌<◌, ◌^◌}
use native.Mathlib.Omega.{arith}
use mathlib.Core.Bool.{Bool, true, false, not, ◌||◌, ◌&&◌, or-false}
use mathlib.Core.List.{List}
use mathlib.Core.Path.{◌≡◌, refl, sym, ap, ap₂, ◌∙◌}
use borrow.Author.Tests.{eq-eqb, ne_eqb}
use lib.Bits.{bit_and, bit_or}
use lib.Dec.{eqb}
use lib.ListN.{get_or, replicate}
use lib.Seq.{sets}
use Rattle.laws.specs.Bits.{bit_at, bit_in, word_of, clear_bit}
use Rattle.laws.specs.Part.{list_of}
use Rattle.laws.specs.Sum.{any}
use Rattle.laws.proofs.Any.{any-eq}
use Rattle.laws.proofs.Bits.{bit-clear, bit-either}
use Rattle.laws.proofs.Choice.{eqb-sym}
use Rattle.laws.proofs.Stores.{sets-at}
use Rattle.laws.proofs.Words.{word-eq, word-bit, word-bits, shares-any}
use Rattle.square.specs.Turned.{turned_fours}
use Rattle.square.proofs.Fours.{fours-row}
use Rattle.reachrows.specs.Rows.{reaches, reached_by_both, clash_in}

pub row-rule : (rule : ℕ) (reach : List ℕ) (reached cells a : ℕ)
    → ((b : ℕ) → b < cells → bit_at reached b ≡ (bit_in reach b a || (eqb rule 2 && reached_by_both reach a b)))
    → word_of (λ b. not (eqb b a) && (bit_in reach a b || bit_at reached b)) cells ≡ word_of (clash_in rule reach a) cells
unfolding clash_in reaches
row-rule rule reach reached cells a other =
    word-eq (λ b. not (eqb b a) && (bit_in reach a b || bit_at reached b)) (clash_in rule reach a) cells (λ b m.
    ap₂ (λ t u. not t && (bit_in reach a b || u)) (eqb-sym b a) (other b m))

-- rule 1: the column alone
pub row_one : (reach : List ℕ) (reached cells a : ℕ) → ((b : ℕ) → b < cells → bit_at reached b ≡ bit_in reach b a)
    → word_of (λ b. not (eqb b a) && (bit_in reach a b || bit_at reached b)) cells ≡ word_of (clash_in 1 reach a) cells
row_one reach reached cells a column = row-rule 1 reach reached cells a (λ b m. column b m ∙ sym (or-false (bit_in reach b a)))

-- a column as a row of a turned word of four
pub four-column : (reach fours : List ℕ) (column a b : ℕ) → a < 16 → b < 16
    → fours ≡ turned_fours reach → column ≡ word_of (λ k. bit_at (get_or fours (a / 4) 0) (16 * (a % 4) + k)) 16 → bit_at column b ≡ bit_in reach b a
four-column reach fours column a b h g t e =
    ap (λ (x : ℕ). bit_at x b) e
    ∙ word-bit (λ k. bit_at (get_or fours (a / 4) 0) (16 * (a % 4) + k)) 16 b g
    ∙ ap (λ (l : List ℕ). bit_in l (a / 4) (16 * (a % 4) + b)) t
    ∙ fours-row reach a b h g

-- ---- rule 2

-- the rows, each without its own cell
abbrev pub others_of : List ℕ → List ℕ
others_of reach = sets (replicate 32 0) 0 (list_of (λ a. clear_bit (get_or reach a 0) a) 32)

other-bit : (reach : List ℕ) (a c : ℕ) → a < 32 → bit_in (others_of reach) a c ≡ (not (eqb c a) && bit_in reach a c)
other-bit reach a c l =
    ap (λ (x : ℕ). bit_at x c) (sets-at (λ k. clear_bit (get_or reach k 0) k) 32 (replicate 32 0) a l (omega arith))
    ∙ bit-clear (get_or reach a 0) a c

shuffle : (m n r s : Bool) → ((m && r) && (n && s)) ≡ (m && (n && (r && s)))
shuffle false n r s = refl
shuffle true true r s = refl
shuffle true false true s = refl
shuffle true false false s = refl

-- the row of a, without a, and the row of b, without b, share a bit exactly where some third cell is reached by both
pub third : (reach : List ℕ) (a b : ℕ) → b < 32
    → any (λ c. bit_at (clear_bit (get_or reach a 0) a) c && bit_in (others_of reach) b c) 32 ≡ reached_by_both reach a b
unfolding reached_by_both reaches
third reach a b m =
    any-eq (λ c. bit_at (clear_bit (get_or reach a 0) a) c && bit_in (others_of reach) b c)
    (λ c. not (eqb c a) && (not (eqb c b) && (bit_in reach a c && bit_in reach b c))) 32
    (λ c h.
    ap₂ ◌&&◌ (bit-clear (get_or reach a 0) a c) (other-bit reach b c m) ∙ shuffle (not (eqb c a)) (not (eqb c b)) (bit_in reach a c) (bit_in reach b c))

-- the same of two rows alone
pub pair-third : (reach : List ℕ) (a b : ℕ)
    → any (λ c. bit_at (clear_bit (get_or reach a 0) a) c && bit_at (clear_bit (get_or reach b 0) b) c) 32 ≡ reached_by_both reach a b
unfolding reached_by_both reaches
pair-third reach a b =
    any-eq (λ c. bit_at (clear_bit (get_or reach a 0) a) c && bit_at (clear_bit (get_or reach b 0) b) c)
    (λ c. not (eqb c a) && (not (eqb c b) && (bit_in reach a c && bit_in reach b c))) 32
    (λ c h.
    ap₂ ◌&&◌ (bit-clear (get_or reach a 0) a c) (bit-clear (get_or reach b 0) b c)
    ∙ shuffle (not (eqb c a)) (not (eqb c b)) (bit_in reach a c) (bit_in reach b c))

-- a word of those that reach a, joined with the word of those that reach a third cell with it
pub with-thirds : (reach : List ℕ) (column thirds cells a b : ℕ) → b < cells
    → bit_at column b ≡ bit_in reach b a → thirds ≡ word_of (reached_by_both reach a) cells
    → bit_at (bit_or column thirds) b ≡ (bit_in reach b a || reached_by_both reach a b)
with-thirds reach column thirds cells a b l c t =
    bit-either column thirds b
    ∙ ap₂ ◌||◌ c (ap (λ (x : ℕ). bit_at x b) t ∙ word-bit (reached_by_both reach a) cells b l)

-- a number of 32 bits and a row: what the code asks, and whether some bit is in both
pub shared : (x row : ℕ) → x < 2 ^ 32 → not (eqb (bit_and x row) 0) ≡ any (λ c. bit_at x c && bit_at row c) 32
shared x row h = ap (λ (z : ℕ). not (eqb (bit_and z row) 0)) (word-bits x 32 h) ∙ shares-any (bit_at x) 32 row

-- ---- two cells, asked one thing after the other

module _ (rule : ℕ) (reach : List ℕ) (a b : ℕ) where
  pub pair_same : a ≡ b → false ≡ clash_in rule reach a b
  unfolding clash_in
  pair_same e = rw (eq-eqb a b e)

  module _ (other : a ≡ b → ⊥) where
    pub pair-reaches : bit_in reach a b ≡ true → true ≡ clash_in rule reach a b
    unfolding clash_in reaches
    pair-reaches e = rw (ne_eqb a b other, e)

    module _ (none : bit_in reach a b ≡ false) where
      pub pair-reached : bit_in reach b a ≡ true → true ≡ clash_in rule reach a b
      unfolding clash_in reaches
      pair-reached e = rw (ne_eqb a b other, none, e)

      module _ (neither : bit_in reach b a ≡ false) where
        pub pair-rule : (eqb rule 2 && reached_by_both reach a b) ≡ clash_in rule reach a b
        unfolding clash_in reaches
        pair-rule = rw (ne_eqb a b other, none, neither)

-- what the code asks, in turn
pub ruleset pair_laws = (pair_same, pair-reaches, pair-reached, pair-rule, pair-third, eq-eqb, ne_eqb)
