-- The equalities that the contracts of crate `shortrows` state: r is the answer, and x' what a lent x holds afterwards.
-- Made by tools/surface from the source.
use Rattle.std.specs.Prelude.{List, not, set, ℕ, ◌*◌, ◌≡◌}
use Rattle.laws.specs.Bits.{bit_at, bit_in, word_of}
use Rattle.planrows.specs.Row.{row_planned, row_short}
use Rattle.theory.specs.Greedy.{reserved}

-- shortrows::open_word
pub record ShortrowsOpenWord (blocked : ℕ) (n : ℕ) (r : ℕ) : Type 0 where
  pub answer : r ≡ word_of (λ k. not (bit_at blocked k)) n

-- shortrows::plan_short_row
pub record ShortrowsPlanShortRow (table : List ℕ) (held : List ℕ) (slots : ℕ) (channels : ℕ) (i : ℕ) (load : ℕ) (clash : List ℕ) (usable : ℕ) (r : ℕ)
    (table' : List ℕ) (held' : List ℕ) : Type 0 where
  pub answer : r ≡ row_short (slots * channels) (bit_in clash) (bit_at usable) i load table
  pub table_after : table' ≡ row_planned (slots * channels) (bit_in clash) (bit_at usable) i load table
  pub held_after : held' ≡ set held i (word_of (reserved (slots * channels) (row_planned (slots * channels) (bit_in clash) (bit_at usable) i load table) i)
      (slots * channels))
