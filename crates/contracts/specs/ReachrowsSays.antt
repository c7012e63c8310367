-- The equalities that the contracts of crate `reachrows` state: r is the answer, and x' what a lent x holds afterwards.
-- Made by tools/surface from the source.
use Rattle.std.specs.Prelude.{Bool, List, get_or, ltb, replicate, ℕ, ◌≡◌}
use Rattle.laws.specs.Bits.{clear_bit, set_bit, word_of}
use Rattle.laws.specs.Choice.{pick}
use Rattle.laws.specs.Part.{list_of}
use Rattle.laws.specs.Search.{first}
use Rattle.reachrows.specs.Rows.{clash_in, row_bad}
use Rattle.std.proofs.lemmas.List.Edits.{sets}

-- reachrows::extra_load
pub record ReachrowsExtraLoad (loads : List ℕ) (cells : ℕ) (r : ℕ) : Type 0 where
  pub answer : r ≡ first (λ k. ltb 0 (get_or loads k 0)) cells 32

-- reachrows::bad_row
pub record ReachrowsBadRow (reach : List ℕ) (cells : ℕ) (r : ℕ) : Type 0 where
  pub answer : r ≡ first (λ k. row_bad cells (get_or reach k 0) k) 0 32

-- reachrows::few_rows
pub record ReachrowsFewRows (reach : List ℕ) (cells : ℕ) (r : List ℕ) : Type 0 where
  pub answer : r ≡ sets (replicate 32 0) 0 (list_of (λ a. word_of (clash_in 1 reach a) cells) cells)

-- reachrows::many_rows
pub record ReachrowsManyRows (reach : List ℕ) (cells : ℕ) (r : List ℕ) : Type 0 where
  pub answer : r ≡ sets (replicate 32 0) 0 (list_of (λ a. word_of (clash_in 1 reach a) cells) cells)

-- reachrows::third_rows
pub record ReachrowsThirdRows (reach : List ℕ) (cells : ℕ) (r : List ℕ) : Type 0 where
  pub answer : r ≡ sets (replicate 32 0) 0 (list_of (λ a. word_of (clash_in 2 reach a) cells) cells)

-- reachrows::pair_clashes
pub record ReachrowsPairClashes (reach : List ℕ) (rule : ℕ) (a : ℕ) (b : ℕ) (r : Bool) : Type 0 where
  pub answer : r ≡ clash_in rule reach a b

-- reachrows::with_bit
pub record ReachrowsWithBit (x : ℕ) (b : ℕ) (r : ℕ) : Type 0 where
  pub answer : r ≡ set_bit x b

-- reachrows::put_bit
pub record ReachrowsPutBit (x : ℕ) (b : ℕ) (set : Bool) (r : ℕ) : Type 0 where
  pub answer : r ≡ pick set set_bit clear_bit x b
